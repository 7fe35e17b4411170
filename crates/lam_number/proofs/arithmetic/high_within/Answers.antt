use Rattle.std.proofs.Common.{arith, ◌∙◌}
use Rattle.std.proofs.lemmas.Int.{ints}
use Rattle.std.proofs.lemmas.Nat.{pow_pos}
use Rattle.lam_number.proofs.Casts.{narrows, reads, raised}
use Rattle.lam_number.proofs.Sizes.{unit_square, units_fit, units_over}
use Rattle.lam_number.proofs.Rounded.{ceil-within}
use Rattle.lam_number.proofs.arithmetic.high_within.Goals as goal

pub overflow_cast-spread : goal.overflow_cast-spread
overflow_cast-spread c = omega (arith, ints, unit_square c.args.scale c.requires.scale.1)

pub overflow_add-centre : goal.overflow_add-centre
overflow_add-centre c = omega (arith, ints, unit_square c.args.scale c.requires.scale.1)

pub narrow-requires : goal.narrow-requires
narrow-requires c =
    narrows _ _ (record { sfits = c.shift_up.type_inv }) (raised _ _ _ _ _ c.ranges.centre c.requires.scale.1 c.requires.room c.shift_up.ensures)
    (units_fit _ c.args.scale c.requires.scale.1 (ceil-within _ _ _ (pow_pos _) (units_over _ c.args.scale (omega (arith, ints, c.requires.room)))))

pub returns : goal.returns
returns c =
    reads _ _ (record { sfits = c.narrow.type_inv }) (record { sfits = c.shift_up.type_inv }) c.narrow.ensures
    ∙ raised _ _ _ _ _ c.ranges.centre c.requires.scale.1 c.requires.room c.shift_up.ensures

pub shift_up-requires-clause-negatable : goal.shift_up-requires-clause-negatable
shift_up-requires-clause-negatable c = omega (arith, ints, unit_square c.args.scale c.requires.scale.1)
