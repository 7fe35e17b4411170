use Rattle.std.proofs.Common.{refl}
use Rattle.lam_fraction.proofs.numbers.Machine.{sizes, fits_in_128, is_exact}
use Rattle.lam_support.proofs.surface.interaction.Goals as goal

pub overflow_mul-result : goal.overflow_mul-result
overflow_mul-result c = fits_in_128 (search (sizes, c) depth 30 fits 9000) refl

pub returns : goal.returns
returns c = is_exact (search (sizes, c) depth 30 fits 9000) refl
