use Rattle.std.proofs.Common.{arith, ◌∙◌}
use Rattle.std.proofs.lemmas.Int.{ints}
use Rattle.std.proofs.lemmas.Nat.{pow_pos}
use Rattle.lam_number.proofs.Casts.{narrows, reads, lowered}
use Rattle.lam_number.proofs.Sizes.{unit_square, units_fit, units_over}
use Rattle.lam_number.proofs.Rounded.{floor-within}
use Rattle.lam_number.proofs.arithmetic.low_within.Goals as goal

pub overflow_cast-spread : goal.overflow_cast-spread
overflow_cast-spread c = omega (arith, ints, unit_square c.args.scale c.requires.scale.1)

pub overflow_sub-centre : goal.overflow_sub-centre
overflow_sub-centre c = omega (arith, ints, unit_square c.args.scale c.requires.scale.1)

pub narrow-requires : goal.narrow-requires
narrow-requires c =
    narrows _ _ (record { sfits = c.shift_down.type_inv }) (lowered _ _ _ _ _ c.ranges.centre c.requires.scale.1 c.requires.room c.shift_down.ensures)
    (units_fit _ c.args.scale c.requires.scale.1 (floor-within _ _ _ (pow_pos _) (units_over _ c.args.scale (omega (arith, ints, c.requires.room)))))

pub returns : goal.returns
returns c =
    reads _ _ (record { sfits = c.narrow.type_inv }) (record { sfits = c.shift_down.type_inv }) c.narrow.ensures
    ∙ lowered _ _ _ _ _ c.ranges.centre c.requires.scale.1 c.requires.room c.shift_down.ensures
