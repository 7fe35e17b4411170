-- The plies of a wall, the cases of a job and its panels, walked by number.
use Rattle.std.proofs.Common.{◌≡◌, refl, ℕ, suc, List, [], ◌∷◌}
use Rattle.lam_job.specs.JobData.{CaseData, PanelData}
use Rattle.lam_job.specs.Wall.{Placed}
use Rattle.lam_number.specs.declared.strength.Verdict.{Verdict}
use Rattle.lam_tsai.specs.declared.place.FaceSide.{FaceSide}
use Rattle.lam_tsai.specs.declared.place.Side.{Side}
use Rattle.lam_judge.specs.declared.finding.Finding.TheVariants.{Clear}
use Rattle.lam_judge.specs.inside.Findings.{and_then, found, at_cases, at_panels, at_ply, at_plies}

module _ (V : Placed → FaceSide → Side → Verdict) (case : ℕ) where
  pub plies-none : (k : ℕ) → at_plies V case k [] ≡ Clear
  unfolding at_plies
  plies-none k = refl

  pub plies-one : (k : ℕ) (p : Placed) (rest : List Placed) → at_plies V case k (p ∷ rest) ≡ and_then (at_ply case k p.item.kind (V p)) (at_plies V case (suc k) rest)
  unfolding at_plies
  plies-one k p rest = refl

module _ (V : CaseData → Placed → FaceSide → Side → Verdict) (plies : List Placed) where
  pub cases-none : (k : ℕ) → at_cases V plies k [] ≡ Clear
  unfolding at_cases
  cases-none k = refl

  pub cases-one : (k : ℕ) (c : CaseData) (rest : List CaseData) → at_cases V plies k (c ∷ rest) ≡ and_then (at_plies (V c) k 0 plies) (at_cases V plies (suc k) rest)
  unfolding at_cases
  cases-one k c rest = refl

module _ (V : PanelData → Verdict) where
  pub panels-none : (k : ℕ) → at_panels V k [] ≡ Clear
  unfolding at_panels
  panels-none k = refl

  pub panels-one : (k : ℕ) (p : PanelData) (rest : List PanelData) → at_panels V k (p ∷ rest) ≡ and_then (found (V p) k) (at_panels V (suc k) rest)
  unfolding at_panels
  panels-one k p rest = refl
