use Rattle.std.proofs.Common.{refl, ◌∙◌, ap}
use Rattle.lam_fraction.proofs.numbers.Machine.{fits_in_128, is_exact, at_most, sized_difference, sized_stored-128, sized_stored-64, sized_at_most}
use Rattle.lam_solve.specs.inside.Residual.{share}
use Rattle.lam_solve.proofs.Machine.{sum_two, sum_more, sum_six, end_product}
use Rattle.lam_solve.proofs.Rows.{row-value, same_ends}
use Rattle.lam_solve.proofs.residual.row_residual.Goals as goal

pub overflow_add-least : goal.overflow_add-least
overflow_add-least g c = fits_in_128 (sum_two c.share-ex.ensures.small.low c.share-ey.ensures.small.low) refl

pub overflow_add-least-2 : goal.overflow_add-least-2
overflow_add-least-2 g c = fits_in_128 (sum_more (sum_two c.share-ex.ensures.small.low c.share-ey.ensures.small.low) c.share-g.ensures.small.low) refl

pub overflow_add-least-3 : goal.overflow_add-least-3
overflow_add-least-3 g c = fits_in_128 (sum_more (sum_more (sum_two c.share-ex.ensures.small.low c.share-ey.ensures.small.low) c.share-g.ensures.small.low) c.share-kx.ensures.small.low) refl

pub overflow_add-least-4 : goal.overflow_add-least-4
overflow_add-least-4 g c = fits_in_128 (sum_more (sum_more (sum_more (sum_two c.share-ex.ensures.small.low c.share-ey.ensures.small.low) c.share-g.ensures.small.low) c.share-kx.ensures.small.low) c.share-ky.ensures.small.low) refl

pub overflow_add-least-5 : goal.overflow_add-least-5
overflow_add-least-5 g c = fits_in_128 (sum_more (sum_more (sum_more (sum_more (sum_two c.share-ex.ensures.small.low c.share-ey.ensures.small.low) c.share-g.ensures.small.low) c.share-kx.ensures.small.low) c.share-ky.ensures.small.low) c.share-kg.ensures.small.low) refl

pub overflow_add-greatest : goal.overflow_add-greatest
overflow_add-greatest g c = fits_in_128 (sum_two c.share-ex.ensures.small.high c.share-ey.ensures.small.high) refl

pub overflow_add-greatest-2 : goal.overflow_add-greatest-2
overflow_add-greatest-2 g c = fits_in_128 (sum_more (sum_two c.share-ex.ensures.small.high c.share-ey.ensures.small.high) c.share-g.ensures.small.high) refl

pub overflow_add-greatest-3 : goal.overflow_add-greatest-3
overflow_add-greatest-3 g c = fits_in_128 (sum_more (sum_more (sum_two c.share-ex.ensures.small.high c.share-ey.ensures.small.high) c.share-g.ensures.small.high) c.share-kx.ensures.small.high) refl

pub overflow_add-greatest-4 : goal.overflow_add-greatest-4
overflow_add-greatest-4 g c = fits_in_128 (sum_more (sum_more (sum_more (sum_two c.share-ex.ensures.small.high c.share-ey.ensures.small.high) c.share-g.ensures.small.high) c.share-kx.ensures.small.high) c.share-ky.ensures.small.high) refl

pub overflow_add-greatest-5 : goal.overflow_add-greatest-5
overflow_add-greatest-5 g c = fits_in_128 (sum_more (sum_more (sum_more (sum_more (sum_two c.share-ex.ensures.small.high c.share-ey.ensures.small.high) c.share-g.ensures.small.high) c.share-kx.ensures.small.high) c.share-ky.ensures.small.high) c.share-kg.ensures.small.high) refl

pub overflow_sub-low : goal.overflow_sub-low
overflow_sub-low g c = fits_in_128 (sized_difference (end_product c.wide_product.ensures c.low.ensures c.requires.load.low c.one-unit.ensures.small) (sized_stored-128 (sum_six c.share-ex.ensures.small.high c.share-ey.ensures.small.high c.share-g.ensures.small.high c.share-kx.ensures.small.high c.share-ky.ensures.small.high c.share-kg.ensures.small.high))) refl

pub overflow_sub-high : goal.overflow_sub-high
overflow_sub-high g c = fits_in_128 (sized_difference (end_product c.wide_product-2.ensures c.high.ensures c.requires.load.high c.one-unit.ensures.small) (sized_stored-128 (sum_six c.share-ex.ensures.small.low c.share-ey.ensures.small.low c.share-g.ensures.small.low c.share-kx.ensures.small.low c.share-ky.ensures.small.low c.share-kg.ensures.small.low))) refl

pub returns-clause-value : goal.returns-clause-value
returns-clause-value g c =
    same_ends (is_exact (sized_stored-128 (sized_difference (end_product c.wide_product.ensures c.low.ensures c.requires.load.low c.one-unit.ensures.small) (sized_stored-128 (sum_six c.share-ex.ensures.small.high c.share-ey.ensures.small.high c.share-g.ensures.small.high c.share-kx.ensures.small.high c.share-ky.ensures.small.high c.share-kg.ensures.small.high)))) refl)
    (is_exact (sized_stored-128 (sized_difference (end_product c.wide_product-2.ensures c.high.ensures c.requires.load.high c.one-unit.ensures.small) (sized_stored-128 (sum_six c.share-ex.ensures.small.low c.share-ey.ensures.small.low c.share-g.ensures.small.low c.share-kx.ensures.small.low c.share-ky.ensures.small.low c.share-kg.ensures.small.low)))) refl)
    ∙ row-value g.N.Enclosure.numbers c.args.load c.args.row.now c.args.centre.now c.one-unit.ensures.value (c.share-ex.ensures.value ∙ ap (share g.N.Enclosure.numbers c.args.row.now.ex) (is_exact (sized_stored-64 (sized_at_most c.requires.centre.ex)) refl)) (c.share-ey.ensures.value ∙ ap (share g.N.Enclosure.numbers c.args.row.now.ey) (is_exact (sized_stored-64 (sized_at_most c.requires.centre.ey)) refl)) (c.share-g.ensures.value ∙ ap (share g.N.Enclosure.numbers c.args.row.now.g) (is_exact (sized_stored-64 (sized_at_most c.requires.centre.g)) refl)) (c.share-kx.ensures.value ∙ ap (share g.N.Enclosure.numbers c.args.row.now.kx) (is_exact (sized_stored-64 (sized_at_most c.requires.centre.kx)) refl)) (c.share-ky.ensures.value ∙ ap (share g.N.Enclosure.numbers c.args.row.now.ky) (is_exact (sized_stored-64 (sized_at_most c.requires.centre.ky)) refl)) (c.share-kg.ensures.value ∙ ap (share g.N.Enclosure.numbers c.args.row.now.kg) (is_exact (sized_stored-64 (sized_at_most c.requires.centre.kg)) refl))

pub returns-clause-small : goal.returns-clause-small
returns-clause-small g c = record {
  low = at_most (sized_stored-128 (sized_difference (end_product c.wide_product.ensures c.low.ensures c.requires.load.low c.one-unit.ensures.small) (sized_stored-128 (sum_six c.share-ex.ensures.small.high c.share-ey.ensures.small.high c.share-g.ensures.small.high c.share-kx.ensures.small.high c.share-ky.ensures.small.high c.share-kg.ensures.small.high)))) refl;
  high = at_most (sized_stored-128 (sized_difference (end_product c.wide_product-2.ensures c.high.ensures c.requires.load.high c.one-unit.ensures.small) (sized_stored-128 (sum_six c.share-ex.ensures.small.low c.share-ey.ensures.small.low c.share-g.ensures.small.low c.share-kx.ensures.small.low c.share-ky.ensures.small.low c.share-kg.ensures.small.low)))) refl;
}
