use Rattle.std.proofs.Common.{below_more, sym, ◌∙◌}
use Rattle.lam_stock.proofs.stock.Stock.mirror_of.Goals as goal

pub loop-b-preserved : goal.loop-b-preserved
loop-b-preserved c = below_more _ _ c.loop-b.invariant (sym c.mirrors.ensures ∙ c.if-mirrors.false)
