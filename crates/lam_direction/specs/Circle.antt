-- The rational points of the unit circle that are directions.
use Rattle.std.specs.Prelude.{◌≡◌, ◌⊎◌, ℤ, pos, ◌+ℤ◌, ◌*ℤ◌, neg_ℤ, ◌≤ℤ◌, int_le, if◌then◌else◌}

-- the point (p/h, q/h)
pub record CirclePoint : Type 0 where
  pub p : ℤ
  pub q : ℤ
  pub h : ℤ

-- the point lies on the unit circle
abbrev pub IsOnCircle : CirclePoint → Type 0
IsOnCircle d = (d.p *ℤ d.p) +ℤ (d.q *ℤ d.q) ≡ d.h *ℤ d.h

-- a point of the half circle from the axis q > 0, itself in it, to the axis q < 0, which is not
pub record IsDirection (d : CirclePoint) : Type 0 where
  pub least_size : pos 1 ≤ℤ d.h
  pub greatest_size : d.h ≤ℤ pos 1000
  pub on_circle : IsOnCircle d
  pub first_half : pos 0 ≤ℤ d.p
  pub axis_upwards : d.p ≡ pos 0 → d.q ≡ d.h

-- two points are the same where their fractions are
abbrev pub SamePoint : CirclePoint → CirclePoint → Type 0
SamePoint a b = (a.p *ℤ b.h ≡ b.p *ℤ a.h) × (a.q *ℤ b.h ≡ b.q *ℤ a.h)

-- the point on the other side of the axis p; the axis q is its own mirror image
abbrev pub mirror_of : CirclePoint → CirclePoint
mirror_of d = if int_le d.p (pos 0) then d else record { p = d.p; q = neg_ℤ d.q; h = d.h }

-- one of the axes
abbrev pub IsOnAxis : CirclePoint → Type 0
IsOnAxis d = (d.p ≡ pos 0) ⊎ (d.q ≡ pos 0)
