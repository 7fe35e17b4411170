use Rattle.std.proofs.Common.{sym, subst, FitsSigned}
use Rattle.std.specs.Int.{w64}
use Rattle.lam_fraction.specs.numbers.Rounding.{floor_over}
use Rattle.lam_number.proofs.Casts.{widened}
use Rattle.lam_number.proofs.Rounded.{floor_fits}
use Rattle.lam_number.proofs.arithmetic.end_floor.Goals as goal

pub low_quotient-requires-clause-room : goal.low_quotient-requires-clause-room
low_quotient-requires-clause-room c =
    subst (FitsSigned w64) (sym (widened floor_over c.args.end c.args.k c.ranges.end c.ranges.k)) (floor_fits c.args.end _ c.ranges.end)
