use Rattle.std.proofs.Common.{arith}
use Rattle.std.proofs.lemmas.Int.{ints}
use Rattle.lam_fraction.specs.numbers.Ends.{width}
use Rattle.lam_number.proofs.wide.spread.Goals as goal

pub returns-clause-value : goal.returns-clause-value
unfolding width
returns-clause-value c = omega (arith, ints, c.abs_diff.ensures)
