use Rattle.std.proofs.Common.{◌≡◌, refl, sym, ◌∙◌, ap, subst, ℤ, true, false, Some, None, rules}
use Rattle.lam_fraction.specs.numbers.Numbers.{Numbers}
use Rattle.lam_fraction.proofs.numbers.Machine.{is_exact, sized_stored-64, sized_between}
use Rattle.lam_stock.specs.declared.scale.Scale.{Scale}
use Rattle.lam_job.specs.declared.load.Load.{Load}
use Rattle.lam_job.specs.Schedule.{items_of}
use Rattle.lam_wall.specs.declared.wall.Wall.{Wall}
use Rattle.lam_solve.specs.declared.six.Six.{Six}
use Rattle.lam_solve.specs.declared.six.Ends.{Ends}
use Rattle.lam_solve.specs.declared.strains.Guess.{Guess}
use Rattle.lam_solve.specs.declared.strains.Strains.{Strains}
use Rattle.lam_solve.specs.Solutions.{HoldsEverySolution}
use Rattle.lam_solve.specs.Widths.{AreNarrowByScale}
use Rattle.lam_solve.specs.inside.Enclosed.{enclosed, residual_at}
use Rattle.lam_solve.specs.inside.Formulas.{loads}
use Rattle.lam_solve.specs.inside.Parts.{IsPosed}
use Rattle.lam_solve.specs.inside.Residual.{residual}
use Rattle.lam_solve.proofs.HeldStrains.{enclosed-holds, has-one}
use Rattle.lam_solve.proofs.Posed.{posed, scaled}
use Rattle.lam_solve.proofs.Radius.{chosen, far-some, near-small}
use Rattle.lam_solve.proofs.widths.NarrowStrains.{narrow-by-spread, settled-narrow}
use Rattle.lam_solve.proofs.enclosed.enclose_at.Goals as goal

-- the strains round a guess, from what is computed step by step
enclosed-value : {A : Type 0} (n : Numbers A) (w : Wall A) (load : Load) (scale : Scale) (c : Guess) {h : ℤ} {l : Six A} {r : Six Ends} {s : Strains A} → h ≡ w.h
    → l ≡ loads n.calc scale.q0 h load → r ≡ residual n w l c → s ≡ enclosed n scale c r → s ≡ enclosed n scale c (residual_at n w load scale c)
enclosed-value n w load scale c thickness e f g = g ∙ ap (enclosed n scale c) (f ∙ ap (λ l. residual n w l c) (e ∙ ap (λ h. loads n.calc scale.q0 h load) thickness))

pub returns-then-not-is_near-clause-none : goal.returns-then-not-is_near-clause-none
returns-then-not-is_near-clause-none g c =
    let e : c.is_near.result ≡ false = cc in
    (λ none. far-some g.N.Enclosure.numbers c.args.guess.now (sym c.is_near.ensures ∙ e), λ above. search rules)

pub returns-then-not-is_near-clause-one : goal.returns-then-not-is_near-clause-one
returns-then-not-is_near-clause-one g c = has-one c.args.load.now

pub loads-loads-requires : goal.loads-loads-requires
loads-loads-requires g c =
    let is = posed c.requires.wall.2 c.requires.range in
    subst (λ h. IsPosed c.args.scale.now h c.args.load.now) (sym (is_exact (sized_stored-64 (sized_between is.thick is.thin)) refl)) is

pub residual-residual-requires-clause-centre : goal.residual-residual-requires-clause-centre
residual-residual-requires-clause-centre g c =
    let e : c.is_near.result ≡ true = cc in
    near-small g.N.Enclosure.numbers c.args.guess.now g.met.N.Enclosure.laws (sym c.is_near.ensures ∙ e)

pub enclosed-requires-clause-scale : goal.enclosed-requires-clause-scale
enclosed-requires-clause-scale g c = scaled c.requires.wall.2.plies

pub returns-clause-one : goal.returns-clause-one
returns-clause-one g c = has-one c.args.load.now

pub returns-clause-held : goal.returns-clause-held
returns-clause-held g c =
    let n = g.N.Enclosure.numbers in
    let is = posed c.requires.wall.2 c.requires.range in
    let value = enclosed-value n c.args.wall.now c.args.load.now c.args.scale.now c.args.guess.now (is_exact (sized_stored-64 (sized_between is.thick is.thin)) refl) c.loads-loads.ensures.value c.residual-residual.ensures.value c.enclosed.ensures.value in
    λ stock numbers stands. subst (λ s. HoldsEverySolution n s (items_of stock numbers) c.args.load.now) (sym value)
    (enclosed-holds g.met.N.Enclosure.laws stands c.args.load.now c.requires.range c.args.guess.now)

pub returns-clause-width : goal.returns-clause-width
returns-clause-width g c =
    let n = g.N.Enclosure.numbers in
    let is = posed c.requires.wall.2 c.requires.range in
    let value = enclosed-value n c.args.wall.now c.args.load.now c.args.scale.now c.args.guess.now (is_exact (sized_stored-64 (sized_between is.thick is.thin)) refl) c.loads-loads.ensures.value c.residual-residual.ensures.value c.enclosed.ensures.value in
    λ narrow settled. subst (AreNarrowByScale n c.args.scale.now) (sym value) (settled-narrow g.met.N.Enclosure.laws c.args.wall.now is narrow c.args.guess.now settled)

pub returns-clause-narrow : goal.returns-clause-narrow
returns-clause-narrow g c = λ narrow settled.
    narrow-by-spread g.met.N.Enclosure.laws c.args.scale.now c.requires.wall.2.plies.catalogue.spread (returns-clause-width g c narrow settled)

pub returns-clause-value : goal.returns-clause-value
returns-clause-value g c =
    let n = g.N.Enclosure.numbers in
    let is = posed c.requires.wall.2 c.requires.range in
    let value = enclosed-value n c.args.wall.now c.args.load.now c.args.scale.now c.args.guess.now (is_exact (sized_stored-64 (sized_between is.thick is.thin)) refl) c.loads-loads.ensures.value c.residual-residual.ensures.value c.enclosed.ensures.value in
    let e : c.is_near.result ≡ true = cc in
    ap Some value ∙ chosen _ _ None (sym c.is_near.ensures ∙ e)
