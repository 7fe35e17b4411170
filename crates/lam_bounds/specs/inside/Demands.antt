-- What has to be carried, as a natural number: a weighted force below 0 asks for nothing.
use Rattle.std.specs.Prelude.{ℕ, ◌+◌, ◌*◌, min, max, ℤ, pos, negsuc}
use Rattle.lam_job.specs.JobData.{CaseData}
use Rattle.lam_support.specs.declared.weight.Weight.{Weight}
use Rattle.lam_tree.specs.ForceBalance.{need, rounded_up, greatest_cost}

-- 0 in place of a number below 0
abbrev pub natural_part : ℤ → ℕ
natural_part (pos n) = n
natural_part (negsuc n) = 0

-- the weighted force of a case, times its factor: in quarters of N/m, and thousandths
abbrev pub demand : CaseData → Weight → ℕ
demand case w = natural_part (need case w)

-- what it costs at least: the floor, or the fixed plies with the best item's cost for what is lacking
abbrev pub net_floor : (floor cost lacking best_cost best_capacity : ℕ) → ℕ
net_floor floor cost lacking best_cost best_capacity =
    min greatest_cost (max floor (cost + rounded_up (lacking * best_cost) (4000 * best_capacity)))
