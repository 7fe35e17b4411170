-- The weighted forces that a layer carries while its stresses stay inside its Tsai-Wu surface.
use Rattle.std.specs.Prelude.{pos}
use Rattle.lam_fraction.specs.Fraction.{ℚ, whole, ◌+ℚ◌, ◌*ℚ◌, ◌≤ℚ◌}
use Rattle.lam_direction.specs.Circle.{CirclePoint}
use Rattle.lam_stock.specs.declared.item.Kind.{Kind}
use Rattle.lam_stock.specs.declared.item.Kind.TheVariants.{Ply, Pair}
use Rattle.lam_stock.specs.declared.item.Lamina.{Lamina}
use Rattle.lam_stock.specs.PlyLaw.{OffAxis, OnAxis, Side, Plus, Minus, side_point, cosine, sine, stress_off_axis, mean}
use Rattle.lam_stock.specs.TsaiWu.{RatioAtLeast}
use Rattle.lam_support.specs.declared.weight.Weight.{Weight}

-- a stress in the axes of the ply, in MPa, lies inside the surface: its strength ratio is at least 1
abbrev pub IsInside : Lamina → OnAxis → Type 0
IsInside l t = RatioAtLeast l t (whole (pos 1000))

-- a stress of the ply on a side of an item, in the axes of the wall
abbrev pub wall_stress : CirclePoint → Side → OnAxis → OffAxis
wall_stress d side t = stress_off_axis (cosine (side_point side d)) (sine (side_point side d)) t

abbrev pub mean_stress : OffAxis → OffAxis → OffAxis
mean_stress t u = record { x = mean t.x u.x; y = mean t.y u.y; s = mean t.s u.s }

-- x, y and s times the components of a stress
abbrev pub weighted : Weight → OffAxis → ℚ
weighted w t = whole w.x *ℚ t.x +ℚ whole w.y *ℚ t.y +ℚ whole w.s *ℚ t.s

-- v is at least every weighted force, in N/m, that a layer carries inside its surface: its thickness in µm times the
-- weighted stress in MPa. In a pair the stresses of the two sides lie inside independently, and the layer has their mean.
abbrev pub CarriesAtMost : Kind → Lamina → CirclePoint → Weight → ℚ → Type 0
CarriesAtMost Ply l d w v = (t : OnAxis) → IsInside l t → whole l.t *ℚ weighted w (wall_stress d Plus t) ≤ℚ v
CarriesAtMost Pair l d w v = (t u : OnAxis) → IsInside l t → IsInside l u
    → whole l.t *ℚ weighted w (mean_stress (wall_stress d Plus t) (wall_stress d Minus u)) ≤ℚ v
