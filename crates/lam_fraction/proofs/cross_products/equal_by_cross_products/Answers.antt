use Rattle.lam_fraction.proofs.FractionPairs.{fraction-equal}
use Rattle.lam_fraction.proofs.cross_products.equal_by_cross_products.Goals as goal

pub returns : goal.returns
returns c = fraction-equal
