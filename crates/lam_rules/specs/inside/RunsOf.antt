-- The runs of a list that grows at its end.
use Rattle.std.specs.Prelude.{◌≡◌, ℕ, ◌≤◌, ◌↔◌, ◌+◌, ◌==◌, List, reverse, take, replicate, Option, Some, None, if◌then◌else◌}
use Rattle.lam_stock.specs.declared.item.ItemNo.{ItemNo}
use Rattle.lam_job.specs.Rules.{HasRun, last_ply}
use Rattle.lam_rules.specs.declared.runs.Runs.{Runs}

-- the last n plies are of one item
abbrev pub EndsInRun : ℕ → List ItemNo → Type 0
EndsInRun n plies = (item : ItemNo) × (take n (reverse plies) ≡ replicate n item)

-- the last ply, how long the run at the end is, and how long the longest run is
pub record AreRunsOf (plies : List ItemNo) (runs : Runs) : Type 0 where
  pub last : runs.last ≡ last_ply plies
  pub at_end : (n : ℕ) → EndsInRun n plies ↔ (n ≤ runs.at_end)
  pub longest : (n : ℕ) → HasRun n plies ↔ (n ≤ runs.longest)

-- how long the run at the end is with one ply more
abbrev pub run_with : Option ItemNo → ℕ → ItemNo → ℕ
run_with None at_end ply = 1
run_with (Some before) at_end ply = if before.0 == ply.0 then at_end + 1 else 1
