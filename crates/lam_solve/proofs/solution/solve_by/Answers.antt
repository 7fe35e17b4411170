use Rattle.std.proofs.Common.{refl, sym, ◌∙◌, ap, subst, subst₂}
use Rattle.lam_fraction.proofs.numbers.Machine.{is_exact, sized_stored-64, sized_between}
use Rattle.lam_job.specs.Schedule.{items_of}
use Rattle.lam_solve.specs.Solutions.{HoldsEverySolution}
use Rattle.lam_solve.specs.inside.Enclosed.{enclosed}
use Rattle.lam_solve.specs.inside.Elimination.{eliminated, guess}
use Rattle.lam_solve.specs.inside.Formulas.{loads}
use Rattle.lam_solve.specs.inside.Parts.{IsPosed}
use Rattle.lam_solve.specs.inside.Residual.{residual}
use Rattle.lam_solve.specs.Widths.{AreNarrowByScale}
use Rattle.lam_solve.specs.inside.Settled.{Settled}
use Rattle.lam_solve.specs.inside.Solution.{centre}
use Rattle.lam_solve.proofs.HeldStrains.{enclosed-holds, has-one}
use Rattle.lam_solve.proofs.Posed.{posed, scaled}
use Rattle.lam_solve.proofs.widths.NarrowStrains.{narrow-by-spread, settled-narrow}
use Rattle.lam_solve.proofs.widths.Solved.{is-narrow}
use Rattle.lam_solve.proofs.solution.solve_by.Goals as goal

pub loads-loads-requires : goal.loads-loads-requires
loads-loads-requires g c =
    let is = posed c.requires.wall.2 c.requires.range in
    subst (λ h. IsPosed c.args.scale.now h c.args.load.now) (sym (is_exact (sized_stored-64 (sized_between is.thick is.thin)) refl)) is

pub enclosed-requires-clause-scale : goal.enclosed-requires-clause-scale
enclosed-requires-clause-scale g c = scaled c.requires.wall.2.plies

pub returns-clause-one : goal.returns-clause-one
returns-clause-one g c = has-one c.args.load.now

pub returns-clause-held : goal.returns-clause-held
returns-clause-held g c =
    let n = g.N.Enclosure.numbers in
    let w = c.args.wall.now in
    let scale = c.args.scale.now in
    let load = c.args.load.now in
    let is = posed c.requires.wall.2 c.requires.range in
    let thickness = is_exact (sized_stored-64 (sized_between is.thick is.thin)) refl in
    let loads-is = c.loads-loads.ensures.value ∙ ap (λ h. loads n.calc scale.q0 h load) thickness in
    let guess-is = c.guess.ensures.value ∙ (λ i. guess n (c.requires.elimination.is i) (loads-is i)) in
    let strains-is = c.centred-centre.ensures.strains ∙ (λ i. centre n w (loads-is i) (guess-is i)) in
    let residual-is = c.centred-centre.ensures.residual ∙ (λ i. residual n w (loads-is i) (strains-is i)) in
    let enclosed-is = c.enclosed.ensures.value ∙ (λ i. enclosed n scale (strains-is i) (residual-is i)) in
    let start = loads n.calc scale.q0 w.h load in
    λ stock numbers stands. subst (λ s. HoldsEverySolution n s (items_of stock numbers) load) (sym enclosed-is)
    (enclosed-holds g.met.N.Enclosure.laws stands load c.requires.range (centre n w start (guess n (eliminated n w) start)))

pub returns-clause-width : goal.returns-clause-width
returns-clause-width g c =
    let n = g.N.Enclosure.numbers in
    let w = c.args.wall.now in
    let scale = c.args.scale.now in
    let load = c.args.load.now in
    let is = posed c.requires.wall.2 c.requires.range in
    let thickness = is_exact (sized_stored-64 (sized_between is.thick is.thin)) refl in
    let loads-is = c.loads-loads.ensures.value ∙ ap (λ h. loads n.calc scale.q0 h load) thickness in
    let guess-is = c.guess.ensures.value ∙ (λ i. guess n (c.requires.elimination.is i) (loads-is i)) in
    let strains-is = c.centred-centre.ensures.strains ∙ (λ i. centre n w (loads-is i) (guess-is i)) in
    let residual-is = c.centred-centre.ensures.residual ∙ (λ i. residual n w (loads-is i) (strains-is i)) in
    let enclosed-is = c.enclosed.ensures.value ∙ (λ i. enclosed n scale (strains-is i) (residual-is i)) in
    let start = loads n.calc scale.q0 w.h load in
    let centre_at = centre n w start (guess n (eliminated n w) start) in
    λ sixty narrow. (
    let settled = c.centred-centre.ensures.settled (is-narrow n w sixty narrow) in
    let here : Settled n centre_at (residual n w start centre_at) = subst₂ (λ k r. Settled n k r) strains-is residual-is settled in
    subst (AreNarrowByScale n scale) (sym enclosed-is) (settled-narrow g.met.N.Enclosure.laws w is narrow centre_at here))

pub returns-clause-narrow : goal.returns-clause-narrow
returns-clause-narrow g c = λ sixty narrow.
    narrow-by-spread g.met.N.Enclosure.laws c.args.scale.now c.requires.wall.2.plies.catalogue.spread (returns-clause-width g c sixty narrow)

pub returns-clause-value : goal.returns-clause-value
returns-clause-value g c =
    let n = g.N.Enclosure.numbers in
    let w = c.args.wall.now in
    let scale = c.args.scale.now in
    let load = c.args.load.now in
    let is = posed c.requires.wall.2 c.requires.range in
    let thickness = is_exact (sized_stored-64 (sized_between is.thick is.thin)) refl in
    let loads-is = c.loads-loads.ensures.value ∙ ap (λ h. loads n.calc scale.q0 h load) thickness in
    let guess-is = c.guess.ensures.value ∙ (λ i. guess n (c.requires.elimination.is i) (loads-is i)) in
    let strains-is = c.centred-centre.ensures.strains ∙ (λ i. centre n w (loads-is i) (guess-is i)) in
    let residual-is = c.centred-centre.ensures.residual ∙ (λ i. residual n w (loads-is i) (strains-is i)) in
    let enclosed-is = c.enclosed.ensures.value ∙ (λ i. enclosed n scale (strains-is i) (residual-is i)) in
    enclosed-is
