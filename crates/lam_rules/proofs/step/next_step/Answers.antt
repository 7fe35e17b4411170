use Rattle.std.proofs.Common.{◌≡◌, sym, ◌∙◌, ap, subst, ◌+◌, Bool, slice_get, get_or, Some, List, to_z, of_z, w64, arith}
use Rattle.std.proofs.lemmas.Int.{ints, to_z-of_z}
use Rattle.std.proofs.lemmas.Option.{slice_get-get_or}
use Rattle.lam_stock.specs.declared.item.Item.{Item}
use Rattle.lam_job.proofs.ThicknessSteps.{small_fits}
use Rattle.lam_job.specs.Partial.{child}
use Rattle.lam_rules.specs.inside.Steps.{AreNumbersOf}
use Rattle.lam_rules.proofs.Growth.{fixed_few, half_within, numbers_more}
use Rattle.lam_rules.proofs.step.next_step.Goals as goal

pub overflow_add-result : goal.overflow_add-result
overflow_add-result c =
    let p = c.args.partial.now in
    let few = fixed_few c.args.job.now p in
    let within = half_within c.args.job.now p.n c.requires.partial.some in
    omega (arith, few, within, c.requires.numbers.places, c.requires.partial.within, c.requires.partial.few, c.next_places-more.ensures.few)

pub with_places-requires-clause-some : goal.with_places-requires-clause-some
with_places-requires-clause-some c =
    let i = c.index-items-ply.result in
    let t = (c.items.ensures.limits c.args.ply.0 i c.requires.known).limits.range.rest in
    let own : i ≡ get_or c.args.stock.now c.args.ply.0 i = c.index-items-ply.is ∙ ap (λ (items : List Item). get_or items c.args.ply.0 i) c.items.ensures.items in
    let same : i.lamina.t ≡ (get_or c.args.stock.now c.args.ply.0 i).lamina.t = ap (λ (x : Item). x.lamina.t) own in
    let fits : to_z w64 (of_z w64 i.lamina.t) ≡ i.lamina.t = to_z-of_z w64 i.lamina.t (small_fits i.lamina.t (omega (arith, ints, same, t.least_t)) (omega (arith, ints, same, t.greatest_t))) in
    omega (arith, ints, fits, same, t.least_t)

pub returns : goal.returns
returns c =
    let i = c.index-items-ply.result in
    let stock = c.args.stock.now in
    let job = c.args.job.now in
    let own : i ≡ get_or stock c.args.ply.0 i = c.index-items-ply.is ∙ ap (λ (items : List Item). get_or items c.args.ply.0 i) c.items.ensures.items in
    let t = (c.items.ensures.limits c.args.ply.0 i c.requires.known).limits.range.rest in
    let is : slice_get stock c.args.ply.0 ≡ Some i = slice_get-get_or stock c.args.ply.0 i c.requires.known ∙ ap Some (sym own) in
    let same : i.lamina.t ≡ (get_or stock c.args.ply.0 i).lamina.t = ap (λ (x : Item). x.lamina.t) own in
    subst (λ (slanted : Bool). AreNumbersOf stock job (child c.args.partial.now c.args.ply)
    (record { runs = c.with.result; slanted = slanted; places = c.args.step.now.places + c.next_places-more.result; thickness = to_z w64 (of_z w64 c.with_places.result) }))
    (sym c.either.ensures)
    (numbers_more stock job c.args.partial.now c.args.ply i c.args.step.now c.with.result c.next_places-more.result c.is_slanted.result c.with_places.result
    c.requires.partial c.requires.open is c.requires.numbers c.next_places-more.ensures.value c.next_places-more.ensures.few
    c.with.ensures.runs c.with.ensures.short c.is_slanted.ensures (omega (arith, ints, same, t.least_t)) (omega (arith, ints, same, t.greatest_t)) c.with_places.ensures)
