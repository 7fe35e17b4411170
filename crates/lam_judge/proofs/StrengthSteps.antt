-- What the judgement by strength needs of a schedule whose rules and loads are kept, and what it says.
use Rattle.std.proofs.Common.{◌≡◌, sym, ◌∙◌, ap, subst, ◌<◌, ◌≤◌, Bool, true, false, List, ◌++◌, length, All, None, if◌then◌else◌, arith}
use Rattle.std.proofs.lemmas.List.{length-append}
use Rattle.lam_stock.specs.declared.item.Item.{Item}
use Rattle.lam_stock.specs.declared.item.ItemNo.{ItemNo}
use Rattle.lam_stock.specs.Scale.{scale_of}
use Rattle.lam_job.specs.JobData.{JobData}
use Rattle.lam_job.specs.LoadOf.{load_of}
use Rattle.lam_job.specs.LoadRange.{LoadInRange}
use Rattle.lam_job.specs.Ranges.{IsJob}
use Rattle.lam_job.specs.Rules.{Fit, FitnessRule, Keeps}
use Rattle.lam_job.specs.Schedule.{items_of, wall_of}
use Rattle.lam_job.specs.Wall.{wall_thickness}
use Rattle.lam_wall.specs.Assembled.{StandsFor}
use Rattle.lam_wall.proofs.Assembled.{stands-for}
use Rattle.lam_plate.specs.Panels.{IsFitWall, wall_numbers}
use Rattle.lam_plate.proofs.PanelFacts.{wall-same}
use Rattle.lam_judge.specs.Judgements.{IsSaid}
use Rattle.lam_judge.specs.declared.judgement.Judgement.{Judgement}
use Rattle.lam_judge.specs.declared.layup.Layup.{Layup}
use Rattle.lam_judge.specs.inside.Judged.{by_findings, judged, matrices, panels_found, plies_found}
use Rattle.lam_judge.specs.inside.Kept.{first_out}
use Rattle.lam_judge.specs.inside.Layups.{IsLayupOf}
use Rattle.lam_judge.specs.inside.Scales.{fine}
use Rattle.lam_judge.proofs.FirstBroken.{none-broken}
use Rattle.lam_judge.proofs.JudgedSteps.{all-in-range, judged-strength}
use Rattle.lam_judge.proofs.WallsLaid.{fine-laws}
use Rattle.lam_judge.proofs.truth.JudgedTruth.{strength-said}

pub some-plies : (t : Bool) (liner listed : List ItemNo) → 1 ≤ length listed → 1 ≤ length (if t then liner ++ listed else listed)
some-plies true liner listed some = let e = length-append liner listed in omega (arith, e, some)
some-plies false liner listed some = some

module _ (stock : List Item) (job : JobData) (listed : List ItemNo) (l : Layup) (is : IsLayupOf stock l) (numbers : l.plies ≡ wall_numbers job listed) where
  same : items_of stock l.plies ≡ wall_of stock job listed
  same = ap (items_of stock) numbers ∙ wall-same stock job listed

  pub layup-range : first_out stock job listed ≡ None → All (λ c. LoadInRange (scale_of stock).floor l.h (load_of c.kind)) job.cases
  layup-range e = subst (λ h. All (λ c. LoadInRange (scale_of stock).floor h (load_of c.kind)) job.cases) (sym (is.thickness ∙ ap wall_thickness same)) (all-in-range stock job listed e)

  pub fit-wall : Fit stock job listed → IsFitWall fine (scale_of stock) (matrices fine (scale_of stock) (items_of stock l.plies))
  fit-wall fit = (
    stock,
    job,
    listed,
    record { fit = fit; stands = subst (StandsFor fine (matrices fine (scale_of stock) (items_of stock l.plies)) (scale_of stock) stock) numbers (stands-for fine-laws is.plies) },
  )

  pub layup-fit : Keeps stock job listed → 0 < length job.panels → IsFitWall fine (scale_of stock) (matrices fine (scale_of stock) (items_of stock l.plies))
  layup-fit rules some = fit-wall (rules FitnessRule some)

  module _ (rules : Keeps stock job listed) (none : first_out stock job listed ≡ None) (r : Judgement)
      (found : r ≡ by_findings (plies_found (scale_of stock) (items_of stock l.plies) job) (panels_found (scale_of stock) (items_of stock l.plies) job)) where
    pub strength-value : r ≡ judged stock job listed
    strength-value =
        found ∙ ap (λ w. by_findings (plies_found (scale_of stock) w job) (panels_found (scale_of stock) w job)) same ∙ judged-strength stock job listed (none-broken stock job listed rules) none

    pub strength-so : IsJob job → IsSaid stock job listed r
    strength-so is_job =
        subst (IsSaid stock job listed) (sym found)
        (strength-said stock job listed l.plies is_job is.plies same rules (subst (λ h. All (λ c. LoadInRange (scale_of stock).floor h (load_of c.kind)) job.cases) is.thickness (layup-range none)))
