use Rattle.std.proofs.Common.{sym, subst, FitsSigned}
use Rattle.std.specs.Int.{w64}
use Rattle.lam_fraction.specs.numbers.Rounding.{ceil_over}
use Rattle.lam_number.proofs.Casts.{widened}
use Rattle.lam_number.proofs.Rounded.{ceil_fits}
use Rattle.lam_number.proofs.arithmetic.end_ceil.Goals as goal

pub high_quotient-requires-clause-room : goal.high_quotient-requires-clause-room
high_quotient-requires-clause-room c =
    subst (FitsSigned w64) (sym (widened ceil_over c.args.end c.args.k c.ranges.end c.ranges.k)) (ceil_fits c.args.end _ c.ranges.end)
