use Rattle.std.proofs.Common.{rules, refl, ◌≡◌, ◌∙◌, sym, ap, subst, ◌<◌, ◌*ℤ◌, length, arith}
use Rattle.lam_fraction.proofs.numbers.Machine.{stored-64}
use Rattle.lam_stock.specs.Scale.{scale_of}
use Rattle.lam_boxes.specs.inside.Extensions.{any_plies, scaled}
use Rattle.lam_boxes.specs.inside.Parts.{FitEach}
use Rattle.lam_boxes.proofs.OpenPlies.{all-plies, first-plies, first-reach, item-reach, item-short, item-thick, item-told, item-within, next-plies}
use Rattle.lam_boxes.proofs.extensions.any_plies.Goals as goal

pub plies_of-hull-requires-clause-thick : goal.plies_of-hull-requires-clause-thick
plies_of-hull-requires-clause-thick g c =
    let some : 0 < length c.args.items.now = omega (arith, c.requires.fit.catalogue.some) in
    item-thick g.met.N.Enclosure.laws c.requires.fit 0 c.index-items-0.result some c.index-items-0.is

pub plies_of-hull-requires-clause-stiffness : goal.plies_of-hull-requires-clause-stiffness
plies_of-hull-requires-clause-stiffness g c =
    let some : 0 < length c.args.items.now = omega (arith, c.requires.fit.catalogue.some) in
    let i = c.index-items-0.result in
    let told = item-told g.met.N.Enclosure.laws c.requires.fit 0 i some c.index-items-0.is c.requires.table in
    item-short g.met.N.Enclosure.laws c.requires.fit 0 i some c.index-items-0.is (c.get.ensures ∙ told)

pub plies_of-next-requires-clause-thick : goal.plies_of-next-requires-clause-thick
plies_of-next-requires-clause-thick g c =
    item-thick g.met.N.Enclosure.laws c.requires.fit c.loop-k.k c.index-items-k.result c.loop-k-test.true c.index-items-k.is

pub plies_of-next-requires-clause-within : goal.plies_of-next-requires-clause-within
plies_of-next-requires-clause-within g c =
    let n = g.N.Enclosure.numbers in
    let h : stored-64 c.args.h ≡ c.args.h = search rules in
    let many : stored-64 c.args.many ≡ c.args.many = search rules in
    let fit = subst (λ m. FitEach m (stored-64 c.args.h) c.args.items.now) (sym many) (subst (λ x. FitEach c.args.many x c.args.items.now) (sym h) c.requires.fit) in
    item-within g.met.N.Enclosure.laws fit c.loop-k.k c.index-items-k.result c.loop-k-test.true c.index-items-k.is

pub plies_of-next-requires-clause-stiffness : goal.plies_of-next-requires-clause-stiffness
plies_of-next-requires-clause-stiffness g c =
    let i = c.index-items-k.result in
    let told = item-told g.met.N.Enclosure.laws c.requires.fit c.loop-k.k i c.loop-k-test.true c.index-items-k.is c.requires.table in
    item-short g.met.N.Enclosure.laws c.requires.fit c.loop-k.k i c.loop-k-test.true c.index-items-k.is (c.get-in-loop-k.ensures ∙ told)

pub loop-k-init : goal.loop-k-init
loop-k-init g c =
    let n = g.N.Enclosure.numbers in
    let h : stored-64 c.args.h ≡ c.args.h = search rules in
    let many : stored-64 c.args.many ≡ c.args.many = search rules in
    let fit = subst (λ m. FitEach m (stored-64 c.args.h) c.args.items.now) (sym many) (subst (λ x. FitEach c.args.many x c.args.items.now) (sym h) c.requires.fit) in
    let some : 0 < length c.args.items.now = omega (arith, c.requires.fit.catalogue.some) in
    let i = c.index-items-0.result in
    let told = item-told g.met.N.Enclosure.laws fit 0 i some c.index-items-0.is c.requires.table in
    record { some = omega arith; so_far = first-plies g.met.N.Enclosure.laws fit 0 i some c.index-items-0.is refl (c.plies_of-hull.ensures ∙ ap (scaled n (n.calc.ratio (stored-64 c.args.many *ℤ i.lamina.t) (stored-64 c.args.h))) (c.get.ensures ∙ told)) }

pub either-hull-requires-clause-first : goal.either-hull-requires-clause-first
either-hull-requires-clause-first g c =
    let n = g.N.Enclosure.numbers in
    let h : stored-64 c.args.h ≡ c.args.h = search rules in
    let many : stored-64 c.args.many ≡ c.args.many = search rules in
    let fit = subst (λ m. FitEach m (stored-64 c.args.h) c.args.items.now) (sym many) (subst (λ x. FitEach c.args.many x c.args.items.now) (sym h) c.requires.fit) in
    first-reach g.met.N.Enclosure.laws fit c.loop-k.k c.loop-k.invariant.some c.loop-k.invariant.so_far

pub either-hull-requires-clause-second : goal.either-hull-requires-clause-second
either-hull-requires-clause-second g c =
    let n = g.N.Enclosure.numbers in
    let h : stored-64 c.args.h ≡ c.args.h = search rules in
    let many : stored-64 c.args.many ≡ c.args.many = search rules in
    let fit = subst (λ m. FitEach m (stored-64 c.args.h) c.args.items.now) (sym many) (subst (λ x. FitEach c.args.many x c.args.items.now) (sym h) c.requires.fit) in
    let i = c.index-items-k.result in
    let told = item-told g.met.N.Enclosure.laws fit c.loop-k.k i c.loop-k-test.true c.index-items-k.is c.requires.table in
    let plies = c.plies_of-next.ensures ∙ ap (scaled n (n.calc.ratio (stored-64 c.args.many *ℤ i.lamina.t) (stored-64 c.args.h))) (c.get-in-loop-k.ensures ∙ told) in
    item-reach g.met.N.Enclosure.laws fit c.loop-k.k c.index-items-k.result c.loop-k-test.true c.index-items-k.is plies

pub loop-k-preserved : goal.loop-k-preserved
loop-k-preserved g c =
    let n = g.N.Enclosure.numbers in
    let h : stored-64 c.args.h ≡ c.args.h = search rules in
    let many : stored-64 c.args.many ≡ c.args.many = search rules in
    let fit = subst (λ m. FitEach m (stored-64 c.args.h) c.args.items.now) (sym many) (subst (λ x. FitEach c.args.many x c.args.items.now) (sym h) c.requires.fit) in
    let i = c.index-items-k.result in
    let told = item-told g.met.N.Enclosure.laws fit c.loop-k.k i c.loop-k-test.true c.index-items-k.is c.requires.table in
    let plies = c.plies_of-next.ensures ∙ ap (scaled n (n.calc.ratio (stored-64 c.args.many *ℤ i.lamina.t) (stored-64 c.args.h))) (c.get-in-loop-k.ensures ∙ told) in
    record { some = omega arith; so_far = next-plies g.met.N.Enclosure.laws fit c.loop-k.k c.index-items-k.result c.loop-k-test.true c.index-items-k.is c.loop-k.invariant.some c.loop-k.invariant.so_far plies c.either-hull.ensures }

pub returns : goal.returns
returns g c =
    let n = g.N.Enclosure.numbers in
    let h : stored-64 c.args.h ≡ c.args.h = search rules in
    let many : stored-64 c.args.many ≡ c.args.many = search rules in
    let fit = subst (λ m. FitEach m (stored-64 c.args.h) c.args.items.now) (sym many) (subst (λ x. FitEach c.args.many x c.args.items.now) (sym h) c.requires.fit) in
    all-plies g.met.N.Enclosure.laws fit c.loop-k.invariant.so_far (omega (arith, c.loop-k-test.false)) ∙ (λ j. any_plies n (scale_of c.args.items.now).q0 (h j) (many j) c.args.items.now)
