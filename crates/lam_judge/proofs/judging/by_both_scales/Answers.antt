use Rattle.std.proofs.Common.{sym, ◌∙◌, ap, subst, subst₂, ◌<◌, ◌≤◌, All, List, length}
use Rattle.lam_number.specs.declared.fix.Fix.{Fix}
use Rattle.lam_stock.specs.declared.scale.Scale.{Scale}
use Rattle.lam_stock.specs.Scale.{scale_of}
use Rattle.lam_job.specs.JobData.{CaseData, JobData, PanelData}
use Rattle.lam_job.specs.LoadOf.{load_of}
use Rattle.lam_job.specs.LoadRange.{LoadInRange}
use Rattle.lam_job.specs.Schedule.{items_of}
use Rattle.lam_job.specs.Wall.{placed_plies}
use Rattle.lam_wall.specs.declared.wall.Wall.{Wall}
use Rattle.lam_plate.specs.Panels.{IsFitWall}
use Rattle.lam_judge.specs.inside.Findings.{at_cases, at_panels}
use Rattle.lam_judge.specs.inside.Judged.{by_findings, panel_over, panels_found, place_verdict}
use Rattle.lam_judge.specs.inside.Scales.{fine}
use Rattle.lam_judge.proofs.judging.by_both_scales.Goals as goal

pub at_cases-plies-requires-clause-range : goal.at_cases-plies-requires-clause-range
at_cases-plies-requires-clause-range c =
    let cases = c.items.ensures ∙ ap (λ (j : JobData). j.cases) c.job.view_is in
    subst (λ (xs : List CaseData). All (λ x. LoadInRange (scale_of c.args.stock.now).floor c.args.layup.now.h (load_of x.kind)) xs) (sym cases) c.requires.range

pub at_panels-panels-requires : goal.at_panels-panels-requires
at_panels-panels-requires c =
    let panels = c.items-2.ensures ∙ ap (λ (j : JobData). j.panels) c.job.view_is in
    record {
      few = subst (λ (xs : List PanelData). length xs ≤ 8) (sym c.items-2.ensures) c.job.invariant.few_panels;
      wall = λ some.
          subst₂ (λ (s : Scale) (w : Wall (Fix 60)). IsFitWall fine s w) (sym c.scale.ensures.value) (sym c.of-fine.ensures.wall)
          (c.requires.fit (subst (λ (xs : List PanelData). 0 < length xs) panels some));
    }

pub returns-in-Fails : goal.returns-in-Fails
returns-in-Fails c =
    let scale = scale_of c.args.stock.now in
    let wall = items_of c.args.stock.now c.args.layup.now.plies in
    let cases = c.items.ensures ∙ ap (λ (j : JobData). j.cases) c.job.view_is in
    let plies = c.at_cases-plies.ensures ∙ ap (at_cases (place_verdict scale wall) (placed_plies wall) 0) cases in
    sym (ap (λ f. by_findings f (panels_found scale wall c.args.job.now)) (sym plies ∙ c.in-Fails.is))

pub returns : goal.returns
returns c =
    let scale = scale_of c.args.stock.now in
    let wall = items_of c.args.stock.now c.args.layup.now.plies in
    let cases = c.items.ensures ∙ ap (λ (j : JobData). j.cases) c.job.view_is in
    let panels = c.items-2.ensures ∙ ap (λ (j : JobData). j.panels) c.job.view_is in
    let plies = c.at_cases-plies.ensures ∙ ap (at_cases (place_verdict scale wall) (placed_plies wall) 0) cases in
    let stability = c.at_panels-panels.ensures ∙ (λ i. at_panels (panel_over fine (c.scale.ensures.value i).q0 (c.of-fine.ensures.wall i)) 0 (panels i)) in
    c.by_findings.ensures ∙ (λ i. by_findings (plies i) (stability i))
