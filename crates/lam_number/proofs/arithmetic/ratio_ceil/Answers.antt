use Rattle.std.proofs.Common.{◌∙◌, sym, subst, FitsSigned}
use Rattle.std.specs.Int.{w64}
use Rattle.lam_number.proofs.Casts.{ratio_high_read, read_narrow}
use Rattle.lam_number.proofs.Rounded.{ratio_high_fits}
use Rattle.lam_number.proofs.arithmetic.ratio_ceil.Goals as goal

pub high_quotient-requires-clause-room : goal.high_quotient-requires-clause-room
high_quotient-requires-clause-room c =
    subst (FitsSigned w64)
    (sym (ratio_high_read c.args.scale c.args.num c.args.den _ (record { sfits = c.in_units.type_inv }) c.ranges.num c.ranges.den c.in_units.ensures.value))
    (ratio_high_fits c.args.scale c.args.num c.args.den c.requires.scale.1 c.requires.positive c.requires.room)

pub returns : goal.returns
returns c =
    read_narrow _ _ (record { sfits = c.high_quotient.type_inv })
    (c.high_quotient.ensures ∙ ratio_high_read c.args.scale c.args.num c.args.den _ (record { sfits = c.in_units.type_inv }) c.ranges.num c.ranges.den c.in_units.ensures.value)
