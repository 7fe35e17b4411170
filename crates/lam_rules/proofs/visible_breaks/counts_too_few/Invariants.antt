use Rattle.std.proofs.Common.{ℕ, ◌+◌, ◌<◌, take, All}
use Rattle.lam_stock.specs.declared.item.ItemNo.{ItemNo}
use Rattle.lam_job.specs.Rules.{times_of}
use Rattle.lam_rules.proofs.visible_breaks.counts_too_few.Given as goal

abbrev pub invariant-loop-count : goal.invariant-loop-count
invariant-loop-count l = All (λ (count : ItemNo × ℕ). ¬ (times_of count.0 l.plies + l.places < count.1)) (take l.count-index l.asked)
