use Rattle.lam_fraction.proofs.FractionPairs.{fraction-sum}
use Rattle.lam_fraction.proofs.cross_products.sum_by_cross_products.Goals as goal

pub returns : goal.returns
returns c = fraction-sum
