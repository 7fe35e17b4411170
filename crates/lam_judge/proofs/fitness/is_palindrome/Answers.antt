use Rattle.std.proofs.Common.{refl, arith}
use Rattle.lam_rules.proofs.Palindromes.{palindrome-from_half}
use Rattle.lam_judge.proofs.fitness.is_palindrome.Goals as goal

pub returns : goal.returns
returns c = (
  (λ t. palindrome-from_half c.args.plies.now (λ k d low. c.loop-i.invariant k d (omega (arith, low, c.loop-i-test.false)))),
  (λ same. refl),
)
