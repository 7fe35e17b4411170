use Rattle.std.proofs.Common.{refl}
use Rattle.lam_fraction.proofs.numbers.Machine.{at_most, sized_stored-128, sized_result}
use Rattle.lam_solve.proofs.Machine.{end_product, sized_lesser, sized_greater}
use Rattle.lam_solve.proofs.residual.share.Goals as goal

pub returns-clause-small : goal.returns-clause-small
returns-clause-small g c = record {
  low = at_most (sized_stored-128 (sized_result c.min.ensures.value
      (sized_lesser (end_product c.wide_product-by_low.ensures c.low.ensures c.requires.entry.low c.requires.component) (end_product c.wide_product-by_high.ensures c.high.ensures c.requires.entry.high c.requires.component)))) refl;
  high = at_most (sized_stored-128 (sized_result c.max.ensures.value
      (sized_greater (end_product c.wide_product-by_low.ensures c.low.ensures c.requires.entry.low c.requires.component) (end_product c.wide_product-by_high.ensures c.high.ensures c.requires.entry.high c.requires.component)))) refl;
}
