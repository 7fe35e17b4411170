use Rattle.std.proofs.Common.{◌≡◌, sym, ◌∙◌, ap, subst, subst₂, true, false, List, length, All}
use Rattle.lam_stock.specs.Scale.{scale_of}
use Rattle.lam_stock.specs.declared.scale.Scale.{Scale}
use Rattle.lam_job.specs.JobData.{CaseData, JobData}
use Rattle.lam_job.specs.LoadOf.{load_of}
use Rattle.lam_job.specs.LoadRange.{LoadInRange}
use Rattle.lam_job.specs.Ranges.{IsJob}
use Rattle.lam_number.specs.declared.fix.Fix.{Fix}
use Rattle.lam_wall.specs.declared.wall.Wall.{Wall}
use Rattle.lam_plate.specs.Panels.{IsFitWall}
use Rattle.lam_judge.specs.Printed.{ArePrinted}
use Rattle.lam_judge.specs.inside.Scales.{fine}
use Rattle.lam_judge.proofs.PrintedSteps.{cases-printed, fit-printed, layup-in-range, panels-printed, printed-said, unfit-printed}
use Rattle.lam_judge.proofs.StrengthSteps.{fit-wall}
use Rattle.lam_judge.proofs.printing.ratios_by.Goals as goal

pub add_cases-requires-clause-range : goal.add_cases-requires-clause-range
add_cases-requires-clause-range c =
    let cases = c.items-2.ensures ∙ ap (λ (j : JobData). j.cases) c.job.view_is in
    subst (λ (xs : List CaseData). All (λ x. LoadInRange (scale_of c.args.stock.now).floor c.of-layup.result.h (load_of x.kind)) xs) (sym cases)
    (layup-in-range c.args.stock.now c.args.job.now c.args.listed.now c.of-layup.result c.of-layup.ensures.layup (c.of-layup.ensures.plies ∙ c.wall_plies.ensures.plies) c.requires.range)

pub add_panels-requires-clause-wall : goal.add_panels-requires-clause-wall
add_panels-requires-clause-wall c =
    subst₂ (λ (s : Scale) (w : Wall (Fix 60)). IsFitWall fine s w) (sym c.scale-scale.ensures.value) (sym c.of-fine.ensures.wall)
    (fit-wall c.args.stock.now c.args.job.now c.args.listed.now c.of-layup.result c.of-layup.ensures.layup (c.of-layup.ensures.plies ∙ c.wall_plies.ensures.plies) (c.is_fit.ensures.0 c.if-is_fit.true))

pub returns-then-is_fit-clause-value : goal.returns-then-is_fit-clause-value
returns-then-is_fit-clause-value c =
    let stock = c.args.stock.now in
    let job = c.args.job.now in
    let listed = c.args.listed.now in
    let l = c.of-layup.result in
    let is = c.of-layup.ensures.layup in
    let numbers = c.of-layup.ensures.plies ∙ c.wall_plies.ensures.plies in
    let cases = c.items-2.ensures ∙ ap (λ (j : JobData). j.cases) c.job.view_is in
    let panels = c.items-then-is_fit.ensures ∙ ap (λ (j : JobData). j.panels) c.job.view_is in
    let room = cases-printed stock job listed l is numbers _ c.items-2.result.now c.start.new.self c.add_cases.new.room (ap length c.items.ensures.items) cases c.start.ensures c.add_cases.ensures in
    panels-printed stock job listed l is numbers c.of-fine.result.wall c.scale-scale.result c.items-then-is_fit.result.now c.add_cases.new.room c.start_panels.new.self c.add_panels.new.room room c.start_panels.ensures c.scale-scale.ensures.value panels c.add_panels.ensures
    ∙ fit-printed stock job listed l is numbers c.of-fine.ensures (c.is_fit.ensures.0 c.if-is_fit.true)

pub returns-then-is_fit-clause-so : goal.returns-then-is_fit-clause-so
returns-then-is_fit-clause-so c =
    subst (ArePrinted c.args.stock.now c.args.job.now c.args.listed.now) (sym (returns-then-is_fit-clause-value c))
    (printed-said c.args.stock.now c.args.job.now c.args.listed.now c.of-layup.result c.of-layup.ensures.layup (c.of-layup.ensures.plies ∙ c.wall_plies.ensures.plies) (subst IsJob c.job.view_is c.job.invariant) c.requires.range)

pub returns-clause-value : goal.returns-clause-value
returns-clause-value c =
    let stock = c.args.stock.now in
    let job = c.args.job.now in
    let listed = c.args.listed.now in
    let l = c.of-layup.result in
    let is = c.of-layup.ensures.layup in
    let numbers = c.of-layup.ensures.plies ∙ c.wall_plies.ensures.plies in
    let cases = c.items-2.ensures ∙ ap (λ (j : JobData). j.cases) c.job.view_is in
    cases-printed stock job listed l is numbers _ c.items-2.result.now c.start.new.self c.add_cases.new.room (ap length c.items.ensures.items) cases c.start.ensures c.add_cases.ensures
    ∙ unfit-printed stock job listed l is numbers (λ fit. let t = c.is_fit.ensures.1 fit in let n : false ≡ true = sym c.if-is_fit.false ∙ t in cc)

pub returns-clause-so : goal.returns-clause-so
returns-clause-so c =
    subst (ArePrinted c.args.stock.now c.args.job.now c.args.listed.now) (sym (returns-clause-value c))
    (printed-said c.args.stock.now c.args.job.now c.args.listed.now c.of-layup.result c.of-layup.ensures.layup (c.of-layup.ensures.plies ∙ c.wall_plies.ensures.plies) (subst IsJob c.job.view_is c.job.invariant) c.requires.range)
