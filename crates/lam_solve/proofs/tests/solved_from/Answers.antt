use Rattle.std.proofs.Common.{refl, sym, ◌∙◌, ap, subst, pos, ◌≤ℤ◌, arith}
use Rattle.std.proofs.lemmas.Int.{ints}
use Rattle.lam_fraction.proofs.numbers.Machine.{is_exact, sized_stored-64, sized_between}
use Rattle.lam_job.specs.LoadRange.{LoadInRange}
use Rattle.lam_wall.specs.Assembled.{StandsFor}
use Rattle.lam_wall.proofs.CatalogueWalls.{wall-thick, wall-thin}
use Rattle.lam_solve.specs.inside.Formulas.{loads}
use Rattle.lam_solve.specs.inside.Parts.{IsPosed}
use Rattle.lam_solve.proofs.Posed.{posed, scaled}
use Rattle.lam_solve.proofs.Radius.{near-small}
use Rattle.lam_solve.proofs.tests.solved_from.Goals as goal

pub loads-loads-requires : goal.loads-loads-requires
loads-loads-requires g c =
    let w = c.assemble-wall.result in
    let stands : StandsFor g.N.Enclosure.numbers w c.scale-scale.result c.args.stock.now c.args.plies.now = subst (λ s. StandsFor g.N.Enclosure.numbers w s c.args.stock.now c.args.plies.now) (sym c.scale-scale.ensures.value) c.assemble-wall.ensures.stands in
    let above = wall-thick stands in
    let thick : pos 1 ≤ℤ w.h = omega (arith, ints, above) in
    let exact = is_exact (sized_stored-64 (sized_between thick (wall-thin stands))) refl in
    let range = subst (λ h. LoadInRange c.scale-scale.result.floor h c.args.load.now) exact (c.in_range.ensures.0 c.if-in_range.true) in
    subst (λ h. IsPosed c.scale-scale.result h c.args.load.now) (sym exact) (posed stands range)

pub centred-centre-requires-clause-on : goal.centred-centre-requires-clause-on
centred-centre-requires-clause-on g c =
    let n = g.N.Enclosure.numbers in
    let w = c.assemble-wall.result in
    let stands : StandsFor n w c.scale-scale.result c.args.stock.now c.args.plies.now = subst (λ s. StandsFor n w s c.args.stock.now c.args.plies.now) (sym c.scale-scale.ensures.value) c.assemble-wall.ensures.stands in
    let above = wall-thick stands in
    let thick : pos 1 ≤ℤ w.h = omega (arith, ints, above) in
    let exact = is_exact (sized_stored-64 (sized_between thick (wall-thin stands))) refl in
    record {
      scale = c.scale-scale.result;
      load = c.args.load.now;
      wall = (c.args.stock.now, c.args.plies.now, stands);
      range = subst (λ h. LoadInRange c.scale-scale.result.floor h c.args.load.now) exact (c.in_range.ensures.0 c.if-in_range.true);
      are = c.loads-loads.ensures.value ∙ ap (λ h. loads n.calc c.scale-scale.result.q0 h c.args.load.now) exact;
    }

pub enclosed-requires-clause-scale : goal.enclosed-requires-clause-scale
enclosed-requires-clause-scale g c =
    let n = g.N.Enclosure.numbers in
    let stands : StandsFor n c.assemble-wall.result c.scale-scale.result c.args.stock.now c.args.plies.now = subst (λ s. StandsFor n c.assemble-wall.result s c.args.stock.now c.args.plies.now) (sym c.scale-scale.ensures.value) c.assemble-wall.ensures.stands in
    scaled stands.plies

pub centred-centre-requires-clause-guess : goal.centred-centre-requires-clause-guess
centred-centre-requires-clause-guess g c = near-small g.N.Enclosure.numbers c.args.guess g.met.N.Enclosure.laws (sym c.is_near.ensures ∙ c.if-is_near.true)
