use Rattle.std.proofs.Common.{refl, rules, ◌*ℤ◌, FitsSigned, w64}
use Rattle.lam_fraction.proofs.numbers.Machine.{Sized, stored-128, sized_product, sized_result, sized_stored-64, sized_stored-128, fits_in_128, is_exact}
use Rattle.lam_tsai.proofs.Computed.{sized_greater, sized_kept, sized_strength}
use Rattle.lam_tsai.proofs.coefficients.interaction.Goals as goal

word : (c : goal.After-wide_product) → FitsSigned w64 c.args.lamina.now.f12
word c = search rules

abbrev product : (c : goal.After-wide_product) → Sized (stored-128 c.from.result *ℤ stored-128 c.wide_product.result)
product c =
    let h = c.requires.range in
    let x = sized_stored-64 (sized_result c.max-x.ensures.value (sized_greater (sized_strength h.xt) (sized_strength h.xc))) in
    let y = sized_stored-64 (sized_result c.max-y.ensures.value (sized_greater (sized_strength h.yt) (sized_strength h.yc))) in
    sized_product (sized_stored-128 (sized_result c.from.ensures (sized_kept (word c))))
    (sized_stored-128 (sized_result c.wide_product.ensures (sized_product x y)))

pub overflow_mul-result : goal.overflow_mul-result
overflow_mul-result c = fits_in_128 (product c) refl

pub returns : goal.returns
returns c = is_exact (sized_stored-128 (product c)) refl
