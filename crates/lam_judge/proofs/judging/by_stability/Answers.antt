use Rattle.std.proofs.Common.{◌≡◌, sym, ◌∙◌, ap, subst, subst₂, ℕ, ◌<◌, ◌≤◌, ◌==◌, true, List, [], ◌∷◌, length, arith}
use Rattle.std.proofs.lemmas.Bool.Decides.{nat_tests}
use Rattle.lam_number.specs.declared.strength.Verdict.{Verdict}
use Rattle.lam_number.specs.declared.fix.Fix.{Fix}
use Rattle.lam_stock.specs.declared.scale.Scale.{Scale}
use Rattle.lam_stock.specs.Scale.{scale_of}
use Rattle.lam_job.specs.JobData.{JobData, PanelData}
use Rattle.lam_job.specs.Schedule.{items_of}
use Rattle.lam_wall.specs.declared.wall.Wall.{Wall}
use Rattle.lam_plate.specs.Panels.{IsFitWall}
use Rattle.lam_judge.specs.declared.finding.Finding.TheVariants.{Clear}
use Rattle.lam_judge.specs.inside.Findings.{at_panels}
use Rattle.lam_judge.specs.inside.Judged.{by_findings, matrices, panel_over}
use Rattle.lam_judge.specs.inside.Scales.{fine}
use Rattle.lam_judge.proofs.PlacesWalked.{panels-none}
use Rattle.lam_judge.proofs.judging.by_stability.Goals as goal

pub at_panels-requires : goal.at_panels-requires
at_panels-requires c =
    let panels = c.items-panels.ensures ∙ ap (λ (j : JobData). j.panels) c.job.view_is in
    record {
      few = subst (λ (xs : List PanelData). length xs ≤ 8) (sym c.items-panels.ensures) c.job.invariant.few_panels;
      wall = λ some.
          subst₂ (λ (s : Scale) (w : Wall (Fix 60)). IsFitWall fine s w) (sym c.scale.ensures.value) (sym c.of-fine.ensures.wall)
          (c.requires.fit (subst (λ (xs : List PanelData). 0 < length xs) panels some));
    }

no_length : (n : ℕ) → (n == 0) ≡ true → n ≡ 0
no_length n e = grind (arith, nat_tests)

no_panels : (V : PanelData → Verdict) (xs : List PanelData) → length xs ≡ 0 → Clear ≡ at_panels V 0 xs
no_panels V [] e = sym (panels-none V 0)
no_panels V (x ∷ xs) e = absurd (omega (arith, e))

pub returns-then-is_empty : goal.returns-then-is_empty
returns-then-is_empty c =
    let scale = scale_of c.args.stock.now in
    let wall = items_of c.args.stock.now c.args.layup.now.plies in
    let panels = c.items-panels.ensures ∙ ap (λ (j : JobData). j.panels) c.job.view_is in
    let none = no_length (length c.items-panels.result.now) (sym c.is_empty.ensures ∙ c.if-is_empty.true) in
    ap (by_findings Clear) (no_panels (panel_over fine scale.q0 (matrices fine scale wall)) c.args.job.now.panels (sym (ap length panels) ∙ none))

pub returns : goal.returns
returns c =
    let panels = c.items-panels.ensures ∙ ap (λ (j : JobData). j.panels) c.job.view_is in
    c.by_panels.ensures ∙ ap (by_findings Clear) (c.at_panels.ensures ∙ (λ i. at_panels (panel_over fine (c.scale.ensures.value i).q0 (c.of-fine.ensures.wall i)) 0 (panels i)))
