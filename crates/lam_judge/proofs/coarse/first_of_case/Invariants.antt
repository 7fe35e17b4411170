use Rattle.std.proofs.Common.{◌≡◌, ℤ, Some, drop, slice_get}
use Rattle.lam_job.specs.LoadOf.{load_of}
use Rattle.lam_job.specs.Schedule.{items_of}
use Rattle.lam_job.specs.Wall.{placed_plies}
use Rattle.lam_stock.specs.Scale.{scale_of}
use Rattle.lam_tsai.specs.FaceStrains.{IsWithinSix}
use Rattle.lam_wall.specs.Faces.{faces}
use Rattle.lam_judge.specs.inside.Findings.{at_plies}
use Rattle.lam_judge.specs.inside.Judged.{face_strain, place_verdict}
use Rattle.lam_judge.specs.inside.Scales.{coarse}
use Rattle.lam_judge.proofs.coarse.first_of_case.Given as goal

abbrev pub invariant-loop-k : goal.invariant-loop-k
invariant-loop-k l = record {
  passed : at_plies (place_verdict (scale_of l.stock) (items_of l.stock l.layup.plies) l.case) l.number l.k (drop l.k (placed_plies (items_of l.stock l.layup.plies)))
      ≡ at_plies (place_verdict (scale_of l.stock) (items_of l.stock l.layup.plies) l.case) l.number 0 (placed_plies (items_of l.stock l.layup.plies));
  strain : (z : ℤ) → slice_get (faces (items_of l.stock l.layup.plies)) l.k ≡ Some z → l.inner ≡ face_strain coarse (scale_of l.stock) (items_of l.stock l.layup.plies) (load_of l.case.kind) z;
  six : IsWithinSix coarse l.inner;
}
