use Rattle.std.proofs.Common.{rules, ◌≡◌, ◌∙◌, sym, ap, subst, ◌≤ℤ◌, pos}
use Rattle.lam_fraction.proofs.numbers.Machine.{stored-64}
use Rattle.lam_boxes.specs.inside.Parts.{AreFixed}
use Rattle.lam_boxes.proofs.FixedPlies.{next-short, next-sum, next-thick, next-told, next-within, sum-room}
use Rattle.lam_boxes.proofs.extensions.fixed_sum.Goals as goal

pub share-part-requires-clause-least : goal.share-part-requires-clause-least
share-part-requires-clause-least g c =
    let i = c.index-items-number.result in
    let t : stored-64 i.lamina.t ≡ i.lamina.t = search rules in
    subst (λ x. pos 0 ≤ℤ x) (sym t) (next-thick g.met.N.Enclosure.laws c.requires.fixed _ i c.loop-number-test.true c.index-items-number.is)

pub share-part-requires-clause-within : goal.share-part-requires-clause-within
share-part-requires-clause-within g c =
    let h : stored-64 c.args.h ≡ c.args.h = search rules in
    let f = subst (λ x. AreFixed x c.args.items.now c.args.plies.now) (sym h) c.requires.fixed in
    let i = c.index-items-number.result in
    let t : stored-64 i.lamina.t ≡ i.lamina.t = search rules in
    subst (λ x. x ≤ℤ stored-64 c.args.h) (sym t) (next-within g.met.N.Enclosure.laws f _ i c.loop-number-test.true c.index-items-number.is)

pub with_share-sum-requires-clause-sum : goal.with_share-sum-requires-clause-sum
with_share-sum-requires-clause-sum g c =
    let h : stored-64 c.args.h ≡ c.args.h = search rules in
    let f = subst (λ x. AreFixed x c.args.items.now c.args.plies.now) (sym h) c.requires.fixed in
    sum-room g.met.N.Enclosure.laws f c.loop-number.number-index c.loop-number.invariant

pub with_share-sum-requires-clause-stiffness : goal.with_share-sum-requires-clause-stiffness
with_share-sum-requires-clause-stiffness g c =
    let i = c.index-items-number.result in
    let told = next-told g.met.N.Enclosure.laws c.requires.fixed _ i c.loop-number-test.true c.index-items-number.is c.requires.table in
    next-short g.met.N.Enclosure.laws c.requires.fixed _ i c.loop-number-test.true c.index-items-number.is (c.get.ensures ∙ told)

pub loop-number-preserved : goal.loop-number-preserved
loop-number-preserved g c =
    let n = g.N.Enclosure.numbers in
    let h : stored-64 c.args.h ≡ c.args.h = search rules in
    let f = subst (λ x. AreFixed x c.args.items.now c.args.plies.now) (sym h) c.requires.fixed in
    let i = c.index-items-number.result in
    let t : stored-64 i.lamina.t ≡ i.lamina.t = search rules in
    let told = next-told g.met.N.Enclosure.laws f _ i c.loop-number-test.true c.index-items-number.is c.requires.table in
    next-sum g.met.N.Enclosure.laws f c.loop-number.number-index i c.loop-number-test.true c.index-items-number.is c.loop-number.invariant
    (c.share-part.ensures.value ∙ ap (λ x. n.calc.ratio x (stored-64 c.args.h)) t) (c.get.ensures ∙ told) c.with_share-sum.ensures
