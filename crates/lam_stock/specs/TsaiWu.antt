-- The Tsai-Wu criterion in plane stress (Jones, the strength of a lamina under biaxial stress).
use Rattle.std.specs.Prelude.{pos, ◌*ℤ◌, ◌^◌}
use Rattle.lam_fraction.specs.Fraction.{ℚ, whole, ◌+ℚ◌, ◌-ℚ◌, ◌*ℚ◌, ◌/ℚ◌, ◌≤ℚ◌}
use Rattle.lam_stock.specs.declared.item.Lamina.{Lamina}
use Rattle.lam_stock.specs.PlyLaw.{OnAxis}

-- the value at a ply stress in kPa: F1 u1 + F2 u2 + F11 u1² + F22 u2² + F66 u6² + 2 F12 u1 u2, with
-- F1 = 1/Xt - 1/Xc, F11 = 1/(Xt Xc), and so on; strengths are in kPa, and F12 in 10⁻¹² per MPa²
unfoldable pub criterion : Lamina → OnAxis → ℚ
criterion l u =
    (u.along /ℚ whole l.xt -ℚ u.along /ℚ whole l.xc)
    +ℚ (u.across /ℚ whole l.yt -ℚ u.across /ℚ whole l.yc)
    +ℚ (u.along *ℚ u.along) /ℚ whole (l.xt *ℤ l.xc)
    +ℚ (u.across *ℚ u.across) /ℚ whole (l.yt *ℤ l.yc)
    +ℚ (u.shear *ℚ u.shear) /ℚ whole (l.s *ℤ l.s)
    +ℚ (whole (pos 2 *ℤ l.f12) *ℚ (u.along *ℚ u.across)) /ℚ whole (pos (10 ^ 18))

-- a ply stress in MPa times a factor in thousandths is one in kPa
abbrev pub times_factor : ℚ → OnAxis → OnAxis
times_factor r t = record { along = t.along *ℚ r; across = t.across *ℚ r; shear = t.shear *ℚ r }

-- the value at a ply stress in MPa, times a factor in thousandths
abbrev pub tsai_wu : Lamina → OnAxis → ℚ → ℚ
tsai_wu l t r = criterion l (times_factor r t)

-- the strength ratio at a ply stress in MPa is at least r thousandths
abbrev pub RatioAtLeast : Lamina → OnAxis → ℚ → Type 0
RatioAtLeast l t r = tsai_wu l t r ≤ℚ whole (pos 1)
