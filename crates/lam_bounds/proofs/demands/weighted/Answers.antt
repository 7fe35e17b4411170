use Rattle.std.proofs.Common.{refl, SFits, w64, rules}
use Rattle.lam_fraction.proofs.numbers.Machine.{fits_in_128, is_exact, at_most, sized_stored-64, sized_stored-128, sized_result, sized_product, sized_sum, sized_given}
use Rattle.lam_bounds.proofs.Ranges.{read-64}
use Rattle.lam_bounds.proofs.demands.weighted.Goals as goal

pub overflow_add-result : goal.overflow_add-result
overflow_add-result c =
    let w = c.args.w.now in
    let x : SFits w64 c.args.load.now.nx = search rules in
    let y : SFits w64 c.args.load.now.ny = search rules in
    let one = sized_stored-128 (sized_result c.wide_product.ensures (sized_product (sized_stored-64 {z = w.x} (sized_given w.x_range)) (read-64 x))) in
    let two = sized_stored-128 (sized_result c.wide_product-2.ensures (sized_product (sized_stored-64 {z = w.y} (sized_given w.y_range)) (read-64 y))) in
    fits_in_128 (sized_sum one two) refl

pub overflow_add-result-2 : goal.overflow_add-result-2
overflow_add-result-2 c =
    let w = c.args.w.now in
    let x : SFits w64 c.args.load.now.nx = search rules in
    let y : SFits w64 c.args.load.now.ny = search rules in
    let s : SFits w64 c.args.load.now.nxy = search rules in
    let one = sized_stored-128 (sized_result c.wide_product.ensures (sized_product (sized_stored-64 {z = w.x} (sized_given w.x_range)) (read-64 x))) in
    let two = sized_stored-128 (sized_result c.wide_product-2.ensures (sized_product (sized_stored-64 {z = w.y} (sized_given w.y_range)) (read-64 y))) in
    let three = sized_stored-128 (sized_result c.wide_product-3.ensures (sized_product (sized_stored-64 {z = w.s} (sized_given w.s_range)) (read-64 s))) in
    fits_in_128 (sized_sum (sized_stored-128 (sized_sum one two)) three) refl

pub returns-clause-value : goal.returns-clause-value
returns-clause-value c =
    let w = c.args.w.now in
    let x : SFits w64 c.args.load.now.nx = search rules in
    let y : SFits w64 c.args.load.now.ny = search rules in
    let s : SFits w64 c.args.load.now.nxy = search rules in
    let one = sized_stored-128 (sized_result c.wide_product.ensures (sized_product (sized_stored-64 {z = w.x} (sized_given w.x_range)) (read-64 x))) in
    let two = sized_stored-128 (sized_result c.wide_product-2.ensures (sized_product (sized_stored-64 {z = w.y} (sized_given w.y_range)) (read-64 y))) in
    let three = sized_stored-128 (sized_result c.wide_product-3.ensures (sized_product (sized_stored-64 {z = w.s} (sized_given w.s_range)) (read-64 s))) in
    is_exact (sized_stored-128 (sized_sum (sized_stored-128 (sized_sum one two)) three)) refl

pub returns-clause-small : goal.returns-clause-small
returns-clause-small c =
    let w = c.args.w.now in
    let x : SFits w64 c.args.load.now.nx = search rules in
    let y : SFits w64 c.args.load.now.ny = search rules in
    let s : SFits w64 c.args.load.now.nxy = search rules in
    let one = sized_stored-128 (sized_result c.wide_product.ensures (sized_product (sized_stored-64 {z = w.x} (sized_given w.x_range)) (read-64 x))) in
    let two = sized_stored-128 (sized_result c.wide_product-2.ensures (sized_product (sized_stored-64 {z = w.y} (sized_given w.y_range)) (read-64 y))) in
    let three = sized_stored-128 (sized_result c.wide_product-3.ensures (sized_product (sized_stored-64 {z = w.s} (sized_given w.s_range)) (read-64 s))) in
    at_most (sized_stored-128 (sized_sum (sized_stored-128 (sized_sum one two)) three)) refl
