use Rattle.std.proofs.Common.{refl, subst, sym, pos, ◌≤ℤ◌}
use Rattle.lam_fraction.proofs.numbers.Machine.{sizes, fits_in_64, is_exact}
use Rattle.lam_lamina.proofs.ReducedKnown.{rest-least, rest-greatest}
use Rattle.lam_lamina.proofs.lamina.poisson_rest.Goals as goal

pub product-requires-2 : goal.product-requires-2
product-requires-2 c = fits_in_64 (search (sizes, c) depth 30 fits 9000) refl

pub overflow_sub-result : goal.overflow_sub-result
overflow_sub-result c = fits_in_64 (search (sizes, c) depth 30 fits 9000) refl

pub returns-clause-value : goal.returns-clause-value
returns-clause-value c = is_exact (search (sizes, c) depth 30 fits 9000) refl

pub returns-clause-least : goal.returns-clause-least
returns-clause-least c = subst (λ x. pos 1 ≤ℤ x) (sym (returns-clause-value c)) (rest-least c.requires.range c.requires.poisson)

pub returns-clause-greatest : goal.returns-clause-greatest
returns-clause-greatest c = subst (λ x. x ≤ℤ pos 1000000000000) (sym (returns-clause-value c)) (rest-greatest c.requires.range)
