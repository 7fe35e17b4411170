-- What three whole numbers read as: a direction, or the first refusal that holds.
use Rattle.std.specs.Prelude.{Bool, ◌&&◌, ◌||◌, ℤ, pos, ◌+ℤ◌, ◌*ℤ◌, int_le, int_lt, if◌then◌else◌, Result, Ok, Err}
use Rattle.lam_direction.specs.Circle.{CirclePoint}
use Rattle.lam_direction.specs.declared.direction.DirectionFault.{DirectionFault}
use Rattle.lam_direction.specs.declared.direction.DirectionFault.TheVariants.{Size, NotUnit, NotFirstHalf}

-- the common denominator is from 1 to 1000
abbrev pub has_size : ℤ → Bool
has_size h = int_le (pos 1) h && int_le h (pos 1000)

-- two whole numbers are equal
abbrev pub int_same : ℤ → ℤ → Bool
int_same a b = int_le a b && int_le b a

-- the point (p/h, q/h) lies on the unit circle
abbrev pub is_unit : ℤ → ℤ → ℤ → Bool
is_unit p q h = int_same ((p *ℤ p) +ℤ (q *ℤ q)) (h *ℤ h)

-- it lies to the right of the axis q, or at its upper end
abbrev pub is_first_half : ℤ → ℤ → ℤ → Bool
is_first_half p q h = int_lt (pos 0) p || (int_same p (pos 0) && int_same q h)

-- the direction (p/h, q/h), or the first refusal that holds
abbrev pub direction_of : ℤ → ℤ → ℤ → Result CirclePoint DirectionFault
direction_of p q h =
    if has_size h
    then (if is_unit p q h
    then (if is_first_half p q h then Ok (record { p = p; q = q; h = h }) else Err NotFirstHalf)
    else Err NotUnit)
    else Err Size
