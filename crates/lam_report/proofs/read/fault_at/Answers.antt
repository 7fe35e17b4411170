use Rattle.std.proofs.Common.{arith}
use Rattle.lam_report.proofs.read.fault_at.Goals as goal

pub overflow_cast-result : goal.overflow_cast-result
overflow_cast-result c = let short = c.requires in let few = c.count_lines.ensures.few in let sub = c.saturating_sub-passed.ensures in omega (arith, short, few, sub)

pub overflow_add-result : goal.overflow_add-result
overflow_add-result c = let short = c.requires in let few = c.count_lines.ensures.few in let sub = c.saturating_sub-passed.ensures in omega (arith, short, few, sub)
