-- The verdicts at the places of a wall under a case are those of the strains that were made for it.
use Rattle.std.proofs.Common.{◌≡◌, ℕ, List}
use Rattle.lam_solve.specs.inside.Formulas.{at_face}
use Rattle.lam_stock.specs.declared.item.Item.{Item}
use Rattle.lam_stock.specs.declared.scale.Scale.{Scale}
use Rattle.lam_job.specs.JobData.{CaseData}
use Rattle.lam_job.specs.Wall.{Placed}
use Rattle.lam_tsai.specs.Levels.{verdict_of}
use Rattle.lam_tsai.specs.declared.place.FaceSide.{FaceSide}
use Rattle.lam_tsai.specs.declared.place.Side.{Side}
use Rattle.lam_tsai.specs.inside.Values.{criterion, level_by}
use Rattle.lam_judge.specs.declared.loaded.Loaded.{Loaded}
use Rattle.lam_judge.specs.inside.Findings.{at_plies}
use Rattle.lam_judge.specs.inside.Judged.{decided, place_verdict, verdict_over, z_by}
use Rattle.lam_judge.specs.inside.Loads.{IsLoaded, item_verdict, loaded_verdict}
use Rattle.lam_judge.specs.inside.Scales.{coarse, fine}

module _ {scale : Scale} {wall : List Item} {number : ℕ} {c : CaseData} {l : Loaded} (is : IsLoaded scale wall number c l) where
  verdicts-are : item_verdict scale l ≡ place_verdict scale wall c
  unfolding loaded_verdict place_verdict verdict_over
  verdicts-are = λ i (p : Placed) (face : FaceSide) (side : Side).
      decided
      (verdict_of coarse (level_by coarse (criterion coarse scale p.item) side (at_face coarse.calc (is.coarse_is i) (z_by p.inner p.outer face) (is.borne.thickness i)) (is.factor i)))
      (verdict_of fine (level_by fine (criterion fine scale p.item) side (at_face fine.calc (is.fine_is i) (z_by p.inner p.outer face) (is.borne.thickness i)) (is.factor i)))

  pub case-found : (plies : List Placed) → at_plies (item_verdict scale l) l.case 0 plies ≡ at_plies (place_verdict scale wall c) number 0 plies
  case-found plies = λ i. at_plies (verdicts-are i) (is.case_is i) 0 plies
