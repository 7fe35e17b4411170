use Rattle.std.proofs.Common.{ℕ, ◌≡◌, ◌≤◌, ◌*◌, ◌^◌, ◌-◌}
use Rattle.lam_stock.specs.Scale.{first_power, power_above}
use Rattle.lam_stock.proofs.scale.power_above.Given as goal

abbrev pub invariant-loop-power : goal.invariant-loop-power
invariant-loop-power l = record {
  least : 1 ≤ l.power;
  greatest : l.power ≤ 3200000;
  left : (k : ℕ) × (l.power * 2 ^ k ≡ 2 ^ 64) × (first_power k l.power l.most ≡ power_above l.most);
}

abbrev pub decreases-loop-power : goal.decreases-loop-power
decreases-loop-power l = 4000000 - l.power
