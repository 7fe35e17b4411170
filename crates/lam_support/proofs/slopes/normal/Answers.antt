use Rattle.std.proofs.Common.{refl}
use Rattle.lam_fraction.proofs.numbers.Machine.{sizes, fits_in_64, is_exact, at_most}
use Rattle.lam_support.proofs.slopes.normal.Goals as goal

pub overflow_add-result : goal.overflow_add-result
overflow_add-result c = fits_in_64 (search (sizes, c) depth 30 fits 9000) refl

pub overflow_mul-result-3 : goal.overflow_mul-result-3
overflow_mul-result-3 c = fits_in_64 (search (sizes, c) depth 30 fits 9000) refl

pub overflow_add-result-2 : goal.overflow_add-result-2
overflow_add-result-2 c = fits_in_64 (search (sizes, c) depth 30 fits 9000) refl

pub returns-clause-value : goal.returns-clause-value
returns-clause-value c = is_exact (search (sizes, c) depth 30 fits 9000) refl

pub returns-clause-small : goal.returns-clause-small
returns-clause-small c = at_most (search (sizes, c) depth 30 fits 9000) refl
