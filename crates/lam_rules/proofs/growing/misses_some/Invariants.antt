use Rattle.std.proofs.Common.{ℕ, ◌+◌, ◌<◌, take, slice_index, All}
use Rattle.lam_stock.specs.declared.item.ItemNo.{ItemNo}
use Rattle.lam_rules.proofs.growing.misses_some.Given as goal

abbrev pub invariant-loop-count : goal.invariant-loop-count
invariant-loop-count l = All (λ (count : ItemNo × ℕ). ¬ (slice_index l.times count.0.0 + l.places < count.1)) (take l.count-index l.asked)
