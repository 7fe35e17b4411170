use Rattle.std.proofs.Common.{refl}
use Rattle.lam_fraction.proofs.numbers.Machine.{sizes, is_exact}
use Rattle.lam_lamina.proofs.lamina.q22_numerator.Goals as goal

pub returns : goal.returns
returns c = is_exact (search (sizes, c) depth 30 fits 9000) refl
