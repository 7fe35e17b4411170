use Rattle.std.proofs.Common.{refl, subst, pos, ◌≤ℤ◌, arith}
use Rattle.std.proofs.lemmas.Int.{ints}
use Rattle.lam_fraction.proofs.numbers.Machine.{is_exact, sized_stored-64, sized_between}
use Rattle.lam_job.specs.LoadRange.{LoadInRange}
use Rattle.lam_wall.proofs.CatalogueWalls.{wall-thick, wall-thin}
use Rattle.lam_solve.proofs.tests.round.Goals as goal

pub enclose_at-requires-clause-range : goal.enclose_at-requires-clause-range
enclose_at-requires-clause-range g c =
    let stands = c.assemble-wall.ensures.stands in
    let above = wall-thick stands in
    let thick : pos 1 ≤ℤ c.assemble-wall.result.h = omega (arith, ints, above) in
    subst (λ h. LoadInRange c.scale-scale.result.floor h c.args.load.now) (is_exact (sized_stored-64 (sized_between thick (wall-thin stands))) refl) (c.in_range.ensures.0 c.if-in_range.true)
