use Rattle.std.proofs.Common.{subst}
use Rattle.lam_stock.specs.Stock.{IsStock}
use Rattle.lam_wall.proofs.laws.kept.Goals as goal

pub returns : goal.returns
returns c = subst (IsStock c.args.stock.now) c.scale-scale.ensures.value c.scale-scale.ensures.stock
