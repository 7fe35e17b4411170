use Rattle.lam_fraction.proofs.FractionPairs.{fraction-order}
use Rattle.lam_fraction.proofs.cross_products.order_by_cross_products.Goals as goal

pub returns : goal.returns
returns c = fraction-order
