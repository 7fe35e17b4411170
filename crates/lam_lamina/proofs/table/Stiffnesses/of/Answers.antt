use Rattle.std.proofs.Common.{subst, ◌≡◌, ◌∙◌, ap, ℕ, ◌<◌, ◌≤◌, length, Some, slice_get, arith}
use Rattle.std.proofs.lemmas.Option.{slice_get_within}
use Rattle.lam_stock.specs.Scale.{IsScaleOf, scale_of}
use Rattle.lam_stock.specs.declared.item.Item.{Item}
use Rattle.lam_lamina.specs.inside.Table.{of_place, place_value}
use Rattle.lam_lamina.proofs.TableKnown.{at-rows, held-entry, narrow-entry, bounded-entry}
use Rattle.lam_lamina.proofs.table.Stiffnesses.of.Goals as goal

pub returns-clause-table : goal.returns-clause-table
returns-clause-table g c =
    let items = c.args.stock.now in
    let calc = g.N.Enclosure.numbers.calc in
    let few : length items ≤ 64 = c.items-items.ensures.few in
    let within : (k : ℕ) (i : Item) → slice_get items k ≡ Some i → k < 64 = λ k i is. omega (arith, few, slice_get_within items k i is) in
    rw (c.row.ensures, c.row-2.ensures, c.row-3.ensures, c.row-4.ensures, c.row-5.ensures, c.row-6.ensures, c.row-7.ensures, c.row-8.ensures)
    (record { entries = λ k i is. at-rows (place_value calc items) k (within k i is) ∙ ap (of_place calc (scale_of items).q0) is })

pub returns-clause-held : goal.returns-clause-held
returns-clause-held g c = held-entry g.met.N.Enclosure.laws (returns-clause-table g c) c.items-items.ensures.limits
    (subst (IsScaleOf c.args.stock.now) c.scale-scale.ensures.value c.scale-scale.ensures.scale)

pub returns-clause-narrow : goal.returns-clause-narrow
returns-clause-narrow g c = narrow-entry g.met.N.Enclosure.laws (returns-clause-table g c) c.items-items.ensures.limits
    (subst (IsScaleOf c.args.stock.now) c.scale-scale.ensures.value c.scale-scale.ensures.scale)

pub returns-clause-bounded : goal.returns-clause-bounded
returns-clause-bounded g c = bounded-entry g.met.N.Enclosure.laws (returns-clause-table g c) c.items-items.ensures.limits
    (subst (IsScaleOf c.args.stock.now) c.scale-scale.ensures.value c.scale-scale.ensures.scale)
