use Rattle.lam_fraction.proofs.FractionPairs.{fraction-product}
use Rattle.lam_fraction.proofs.cross_products.product_by_cross_products.Goals as goal

pub returns : goal.returns
returns c = fraction-product
