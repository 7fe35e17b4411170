use Rattle.std.proofs.Common.{◌∙◌, ◌*ℤ◌, arith}
use Rattle.std.proofs.lemmas.Int.{unsigned_abs-mul}
use Rattle.lam_number.proofs.Casts.{narrows, two_ends}
use Rattle.lam_number.proofs.Sizes.{units_fit}
use Rattle.lam_number.proofs.arithmetic.end_times.Goals as goal

pub narrow-requires : goal.narrow-requires
narrow-requires c =
    narrows _ _ (record { sfits = c.wide_product.type_inv }) (c.wide_product.ensures ∙ two_ends ◌*ℤ◌ _ _ c.ranges.end c.ranges.k)
    (units_fit _ c.args.scale c.requires.scale.1 (omega (arith, unsigned_abs-mul c.args.end c.args.k, c.requires.room)))
