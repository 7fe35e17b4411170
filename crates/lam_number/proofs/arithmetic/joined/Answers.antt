use Rattle.lam_number.proofs.FixFacts.{fix_is}
use Rattle.std.proofs.Common.{arith}
use Rattle.std.proofs.lemmas.Int.{ints, clamps}
use Rattle.lam_number.proofs.arithmetic.joined.Goals as goal

pub returns : goal.returns
returns g c = fix_is g.row.S _ _ _ (omega (arith, ints, clamps, c.min.ensures)) (omega (arith, ints, clamps, c.max.ensures))
