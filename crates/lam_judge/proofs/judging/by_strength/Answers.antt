use Rattle.std.proofs.Common.{sym, ◌∙◌, ap, subst, All, List}
use Rattle.lam_stock.specs.Scale.{scale_of}
use Rattle.lam_job.specs.JobData.{CaseData, JobData}
use Rattle.lam_job.specs.LoadOf.{load_of}
use Rattle.lam_job.specs.LoadRange.{LoadInRange}
use Rattle.lam_job.specs.Schedule.{items_of}
use Rattle.lam_job.specs.Wall.{placed_plies}
use Rattle.lam_judge.specs.inside.Findings.{at_cases, Settles}
use Rattle.lam_judge.specs.inside.Judged.{by_findings, panels_found, place_verdict}
use Rattle.lam_judge.proofs.Settled.{settled-clear, settled-fails}
use Rattle.lam_judge.proofs.judging.by_strength.Goals as goal

pub first_of_cases-requires-clause-range : goal.first_of_cases-requires-clause-range
first_of_cases-requires-clause-range c =
    let cases = c.items.ensures ∙ ap (λ (j : JobData). j.cases) c.job.view_is in
    subst (λ (xs : List CaseData). All (λ x. LoadInRange (scale_of c.args.stock.now).floor c.args.layup.now.h (load_of x.kind)) xs) (sym cases) c.requires.range

pub returns-in-Clear : goal.returns-in-Clear
returns-in-Clear c =
    let scale = scale_of c.args.stock.now in
    let wall = items_of c.args.stock.now c.args.layup.now.plies in
    let all = at_cases (place_verdict scale wall) (placed_plies wall) 0 in
    let panels = panels_found scale wall c.args.job.now in
    let cases = c.items.ensures ∙ ap (λ (j : JobData). j.cases) c.job.view_is in
    let settles = subst (λ (xs : List CaseData). Settles c.first_of_cases.result (all xs)) cases c.first_of_cases.ensures in
    c.by_stability.ensures ∙ ap (λ f. by_findings f panels) (settled-clear c.first_of_cases.result (all c.args.job.now.cases) c.in-Clear.is settles)

pub returns-in-Fails : goal.returns-in-Fails
returns-in-Fails c =
    let scale = scale_of c.args.stock.now in
    let wall = items_of c.args.stock.now c.args.layup.now.plies in
    let all = at_cases (place_verdict scale wall) (placed_plies wall) 0 in
    let panels = panels_found scale wall c.args.job.now in
    let cases = c.items.ensures ∙ ap (λ (j : JobData). j.cases) c.job.view_is in
    let settles = subst (λ (xs : List CaseData). Settles c.first_of_cases.result (all xs)) cases c.first_of_cases.ensures in
    ap (λ f. by_findings f panels) (settled-fails c.first_of_cases.result (all c.args.job.now.cases) c.in-Fails.at c.in-Fails.is settles)
