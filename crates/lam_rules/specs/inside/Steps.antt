-- The running numbers of a partial schedule that grows at its end.
use Rattle.std.specs.Prelude.{◌≡◌, ℕ, ℤ, pos, ◌+◌, ◌*◌, ◌/◌, ◌≤◌, ◌≤ℤ◌, ◌↔◌, nat_lt, List, length, take, get_or, Any, Bool, IsTrue, if◌then◌else◌}
use Rattle.lam_stock.specs.declared.item.Item.{Item}
use Rattle.lam_stock.specs.declared.item.ItemNo.{ItemNo}
use Rattle.lam_stock.specs.Stock.{IsKnown}
use Rattle.lam_job.specs.JobData.{JobData}
use Rattle.lam_job.specs.Schedule.{items_of, wall_of}
use Rattle.lam_job.specs.Wall.{wall_thickness}
use Rattle.lam_job.specs.Rules.{times_of, IsSlanted}
use Rattle.lam_job.specs.Partial.{Partial, fixed_plies, thickest}
use Rattle.lam_rules.specs.declared.step.Step.{Step}
use Rattle.lam_rules.specs.Conditions.{IsPartial}
use Rattle.lam_rules.specs.inside.RunsOf.{AreRunsOf}

-- how many places one more ply fixes, behind so many: two where it has a mirror image of its own
abbrev pub places_fixed : Bool → (n settled : ℕ) → ℕ
places_fixed symmetric n settled = if symmetric then (if nat_lt settled (n / 2) then 2 else 1) else 1

-- the numbers of a partial: the runs of its prefix, whether a slanted ply is in it, how many places are fixed, and how thick
-- the wall of the fixed plies is
pub record AreNumbersOf (stock : List Item) (job : JobData) (p : Partial) (step : Step) : Type 0 where
  pub runs : AreRunsOf p.prefix step.runs
  pub short : step.runs.at_end ≤ length p.prefix
  pub slanted : IsTrue step.slanted ↔ Any IsSlanted (items_of stock p.prefix)
  pub places : step.places ≡ length (fixed_plies job p)
  pub thickness : step.thickness ≡ wall_thickness (wall_of stock job (fixed_plies job p))
  pub least : pos 0 ≤ℤ step.thickness
  pub greatest : step.thickness ≤ℤ pos (2560000 + 40000 * length p.prefix)

-- the partial of the first k plies
abbrev pub cut_at : ℕ → Partial → Partial
cut_at k p = record { n = p.n; prefix = take k p.prefix }

-- the numbers of a partial and of each shorter one, how often each item is fixed, and how thick the thickest is
pub record AreRunning (stock : List Item) (job : JobData) (p : Partial) (numbers : List Step) (counts : List ℕ) (most : ℤ) : Type 0 where
  pub few : length stock ≤ 64
  pub liner : IsKnown stock job.liner
  pub partial : IsPartial stock job p
  pub many : length numbers ≡ 57
  pub steps : (k : ℕ) (d : Step) → k ≤ length p.prefix → AreNumbersOf stock job (cut_at k p) (get_or numbers k d)
  pub table : length counts ≡ 64
  pub times : (item : ItemNo) → get_or counts item.0 0 ≡ times_of item (fixed_plies job p)
  pub thickest : most ≡ thickest stock
  pub least : pos 0 ≤ℤ most
  pub greatest : most ≤ℤ pos 20000
