use Rattle.std.proofs.Common.{◌≡◌, ◌<◌, ℕ, ℤ, Some, length, slice_get}
use Rattle.lam_job.specs.Schedule.{items_of}
use Rattle.lam_wall.specs.Faces.{faces}
use Rattle.lam_judge.proofs.layup.faces_of.Given as goal

abbrev pub invariant-loop-k : goal.invariant-loop-k
invariant-loop-k l = record {
  size : length l.faces ≡ 65;
  each : (j : ℕ) (z : ℤ) → j < l.k → slice_get (faces (items_of l.stock l.plies)) j ≡ Some z → slice_get l.faces j ≡ Some z;
}
