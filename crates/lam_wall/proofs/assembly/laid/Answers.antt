use Rattle.std.proofs.Common.{rules, ◌≡◌, ◌∙◌, sym, subst, ◌≤◌, pos, ◌+ℤ◌, ◌*ℤ◌, length, to_z, w64, arith}
use Rattle.std.specs.Prelude.{unsigned_abs}
use Rattle.lam_fraction.proofs.numbers.Machine.{stored-64}
use Rattle.lam_stock.specs.Scale.{scale_of}
use Rattle.lam_wall.specs.inside.Parts.{IsListed}
use Rattle.lam_wall.proofs.LaidWall.{laid-none, first-place, next-few, next-told, next-short, next-thin, next-placed, next-room, place-small, next-laid, all-laid}
use Rattle.lam_wall.proofs.assembly.laid.Goals as goal

pub loop-number-init : goal.loop-number-init
loop-number-init g c =
    let h : stored-64 c.args.h ≡ c.args.h = search rules in
    let l = subst (λ x. IsListed (scale_of c.args.items.now) x c.args.items.now c.args.numbers.now) (sym h) c.requires.listed in
    laid-none g.met.N.Enclosure.laws l c.bare-wall.ensures (first-place g.met.N.Enclosure.laws l)

pub get-stiffness-requires : goal.get-stiffness-requires
get-stiffness-requires g c =
    next-few g.met.N.Enclosure.laws c.requires.listed _ c.index-items-number.result c.loop-number-test.true c.index-items-number.is

pub with_ply-wall-requires-clause-placed : goal.with_ply-wall-requires-clause-placed
with_ply-wall-requires-clause-placed g c =
    let h : stored-64 c.args.h ≡ c.args.h = search rules in
    let l = subst (λ x. IsListed (scale_of c.args.items.now) x c.args.items.now c.args.numbers.now) (sym h) c.requires.listed in
    next-placed g.met.N.Enclosure.laws l _ c.index-items-number.result c.loop-number-test.true c.index-items-number.is c.loop-number.invariant

pub with_ply-wall-requires-clause-wall : goal.with_ply-wall-requires-clause-wall
with_ply-wall-requires-clause-wall g c =
    let h : stored-64 c.args.h ≡ c.args.h = search rules in
    let l = subst (λ x. IsListed (scale_of c.args.items.now) x c.args.items.now c.args.numbers.now) (sym h) c.requires.listed in
    next-room g.met.N.Enclosure.laws l _ c.index-items-number.result c.loop-number-test.true c.index-items-number.is c.loop-number.invariant

pub with_ply-wall-requires-clause-stiffness : goal.with_ply-wall-requires-clause-stiffness
with_ply-wall-requires-clause-stiffness g c =
    let i = c.index-items-number.result in
    let told = next-told g.met.N.Enclosure.laws c.requires.listed _ i c.loop-number-test.true c.index-items-number.is c.requires.table in
    next-short g.met.N.Enclosure.laws c.requires.listed _ i c.loop-number-test.true c.index-items-number.is (c.get-stiffness.ensures ∙ told)

pub outer_face-inner-requires-clause-inner : goal.outer_face-inner-requires-clause-inner
outer_face-inner-requires-clause-inner g c =
    let h : stored-64 c.args.h ≡ c.args.h = search rules in
    let l = subst (λ x. IsListed (scale_of c.args.items.now) x c.args.items.now c.args.numbers.now) (sym h) c.requires.listed in
    place-small g.met.N.Enclosure.laws l _ c.index-items-number.result c.loop-number-test.true c.index-items-number.is c.loop-number.invariant

pub outer_face-inner-requires-clause-t : goal.outer_face-inner-requires-clause-t
outer_face-inner-requires-clause-t g c =
    let i = c.index-items-number.result in
    let t : stored-64 i.lamina.t ≡ i.lamina.t = search rules in
    subst (λ x. unsigned_abs x ≤ 1280000) (sym t)
    (next-thin g.met.N.Enclosure.laws c.requires.listed _ i c.loop-number-test.true c.index-items-number.is)

pub loop-number-preserved : goal.loop-number-preserved
loop-number-preserved g c =
    let h : stored-64 c.args.h ≡ c.args.h = search rules in
    let l = subst (λ x. IsListed (scale_of c.args.items.now) x c.args.items.now c.args.numbers.now) (sym h) c.requires.listed in
    let i = c.index-items-number.result in
    let o : stored-64 c.outer_face-inner.result ≡ to_z w64 c.loop-number.inner-bits +ℤ pos 2 *ℤ i.lamina.t = search rules in
    let told = next-told g.met.N.Enclosure.laws l _ i c.loop-number-test.true c.index-items-number.is c.requires.table in
    next-laid g.met.N.Enclosure.laws l _ i c.loop-number-test.true c.index-items-number.is c.loop-number.invariant (c.get-stiffness.ensures ∙ told) c.with_ply-wall.ensures o

pub returns : goal.returns
returns g c =
    let h : stored-64 c.args.h ≡ c.args.h = search rules in
    let l = subst (λ x. IsListed (scale_of c.args.items.now) x c.args.items.now c.args.numbers.now) (sym h) c.requires.listed in
    let all : c.loop-number.number-index ≡ length c.args.numbers.now = omega arith in
    all-laid g.met.N.Enclosure.laws l c.loop-number.invariant all
