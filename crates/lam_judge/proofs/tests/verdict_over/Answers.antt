use Rattle.std.proofs.Common.{◌≡◌, refl, ap, subst, ◌<◌, pos, ◌≤ℤ◌, List, length, Some, slice_get, arith}
use Rattle.std.proofs.lemmas.Int.{ints}
use Rattle.std.proofs.lemmas.Option.{slice_get_read}
use Rattle.lam_fraction.proofs.numbers.Machine.{is_exact, sized_stored-64, sized_between}
use Rattle.lam_job.specs.LoadRange.{LoadInRange}
use Rattle.lam_stock.specs.declared.item.Item.{Item}
use Rattle.lam_tsai.specs.Listed.{IsItemOf}
use Rattle.lam_wall.proofs.CatalogueWalls.{wall-thick, wall-thin}
use Rattle.lam_judge.proofs.tests.verdict_over.Goals as goal

pub solve-strains-requires-clause-range : goal.solve-strains-requires-clause-range
solve-strains-requires-clause-range g c =
    let stands = c.assemble-wall.ensures.stands in
    let above = wall-thick stands in
    let thick : pos 1 ≤ℤ c.assemble-wall.result.h = omega (arith, ints, above) in
    subst (λ h. LoadInRange c.scale-scale.result.floor h c.args.load.now) (is_exact (sized_stored-64 (sized_between thick (wall-thin stands))) refl) (c.in_range.ensures.0 c.if-in_range.true)

pub level-level-requires-clause-item : goal.level-level-requires-clause-item
level-level-requires-clause-item g c =
    let items = c.items-items.result.now in
    let d = c.index-items-0 in
    let same = c.items-items.ensures.items in
    let long = ap length same in
    let within : 0 < length items = omega (arith, long, c.items-items.ensures.some) in
    record {
      items = c.args.stock.now;
      stock = c.scale-scale.ensures.stock;
      place = 0;
      listed = subst (λ (xs : List Item). slice_get xs 0 ≡ Some d.result) same (slice_get_read items (length items) 0 d.result refl within d.is);
    }
