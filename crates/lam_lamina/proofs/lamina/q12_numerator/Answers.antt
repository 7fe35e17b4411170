use Rattle.std.proofs.Common.{refl}
use Rattle.lam_fraction.proofs.numbers.Machine.{sizes, fits_in_64, is_exact}
use Rattle.lam_lamina.proofs.lamina.q12_numerator.Goals as goal

pub product-requires-2 : goal.product-requires-2
product-requires-2 c = fits_in_64 (search (sizes, c) depth 30 fits 9000) refl

pub overflow_mul-result : goal.overflow_mul-result
overflow_mul-result c = fits_in_64 (search (sizes, c) depth 30 fits 9000) refl

pub returns : goal.returns
returns c = is_exact (search (sizes, c) depth 30 fits 9000) refl
