-- The law of one layer in plane stress (Jones, reduced stiffness and its transformation).
-- Strains are engineering strains; stresses and moduli are in MPa. The axes 1 and 2 of a ply lie along and
-- across its fibres, x and y along the wall and round it; c and s are the cosine and sine of the angle from x
-- to the fibres.
use Rattle.std.specs.Prelude.{ℤ, pos, neg_ℤ, ◌*ℤ◌, ◌-ℤ◌}
use Rattle.lam_fraction.specs.Fraction.{ℚ, whole, fraction, ◌+ℚ◌, ◌-ℚ◌, ◌*ℚ◌}
use Rattle.lam_direction.specs.Circle.{CirclePoint}
use Rattle.lam_stock.specs.declared.item.Lamina.{Lamina}
use Rattle.lam_stock.specs.declared.item.Kind.{Kind}
use Rattle.lam_stock.specs.declared.item.Kind.TheVariants.{Ply, Pair}

-- two normal components and the shear component, of a strain or of a stress, in the axes of a wall
pub record OffAxis : Type 0 where
  pub x : ℚ
  pub y : ℚ
  pub s : ℚ

-- the same in the axes of a ply
pub record OnAxis : Type 0 where
  pub along : ℚ
  pub across : ℚ
  pub shear : ℚ

-- ---- the moduli of a lamina

-- 1 - n12 n21, times a million E1
abbrev pub poisson_rest : Lamina → ℤ
poisson_rest l = (pos 1000000 *ℤ l.e1) -ℤ ((l.n12 *ℤ l.n12) *ℤ l.e2)

-- E1 / (1 - n12 n21), with n21 = n12 E2 / E1
unfoldable pub reduced_11 : Lamina → ℚ
reduced_11 l = fraction (pos 1000000 *ℤ (l.e1 *ℤ l.e1)) (poisson_rest l)

-- n12 E2 / (1 - n12 n21)
unfoldable pub reduced_12 : Lamina → ℚ
reduced_12 l = fraction (pos 1000 *ℤ (l.n12 *ℤ (l.e1 *ℤ l.e2))) (poisson_rest l)

-- E2 / (1 - n12 n21)
unfoldable pub reduced_22 : Lamina → ℚ
reduced_22 l = fraction (pos 1000000 *ℤ (l.e1 *ℤ l.e2)) (poisson_rest l)

unfoldable pub reduced_66 : Lamina → ℚ
reduced_66 l = whole l.g12

-- the stress that a strain gives, in the axes of the ply
abbrev pub ply_stress : Lamina → OnAxis → OnAxis
ply_stress l e = record {
  along = reduced_11 l *ℚ e.along +ℚ reduced_12 l *ℚ e.across;
  across = reduced_12 l *ℚ e.along +ℚ reduced_22 l *ℚ e.across;
  shear = reduced_66 l *ℚ e.shear;
}

-- ---- transformation to the axes of a ply, and back

unfoldable pub cosine : CirclePoint → ℚ
cosine d = fraction d.p d.h

unfoldable pub sine : CirclePoint → ℚ
sine d = fraction d.q d.h

abbrev pub two : ℚ
two = whole (pos 2)

-- the strain of the wall, in the axes of a ply
abbrev pub strain_on_axis : ℚ → ℚ → OffAxis → OnAxis
strain_on_axis c s e = record {
  along = (c *ℚ c) *ℚ e.x +ℚ (s *ℚ s) *ℚ e.y +ℚ (s *ℚ c) *ℚ e.s;
  across = (s *ℚ s) *ℚ e.x +ℚ (c *ℚ c) *ℚ e.y -ℚ (s *ℚ c) *ℚ e.s;
  shear = two *ℚ (s *ℚ c) *ℚ e.y -ℚ two *ℚ (s *ℚ c) *ℚ e.x +ℚ (c *ℚ c -ℚ s *ℚ s) *ℚ e.s;
}

-- a stress of the wall, in the axes of a ply
abbrev pub stress_on_axis : ℚ → ℚ → OffAxis → OnAxis
stress_on_axis c s t = record {
  along = (c *ℚ c) *ℚ t.x +ℚ (s *ℚ s) *ℚ t.y +ℚ two *ℚ (s *ℚ c) *ℚ t.s;
  across = (s *ℚ s) *ℚ t.x +ℚ (c *ℚ c) *ℚ t.y -ℚ two *ℚ (s *ℚ c) *ℚ t.s;
  shear = (s *ℚ c) *ℚ t.y -ℚ (s *ℚ c) *ℚ t.x +ℚ (c *ℚ c -ℚ s *ℚ s) *ℚ t.s;
}

-- a stress of a ply, transformed back to the axes of the wall
abbrev pub stress_off_axis : ℚ → ℚ → OnAxis → OffAxis
stress_off_axis c s t = record {
  x = (c *ℚ c) *ℚ t.along +ℚ (s *ℚ s) *ℚ t.across -ℚ two *ℚ (s *ℚ c) *ℚ t.shear;
  y = (s *ℚ s) *ℚ t.along +ℚ (c *ℚ c) *ℚ t.across +ℚ two *ℚ (s *ℚ c) *ℚ t.shear;
  s = (s *ℚ c) *ℚ t.along -ℚ (s *ℚ c) *ℚ t.across +ℚ (c *ℚ c -ℚ s *ℚ s) *ℚ t.shear;
}

-- ---- the sides of an item

-- a pair has the side of its direction and the side of the mirror image; a ply has the first alone
pub data Side : Type 0 where
  Plus : Side
  Minus : Side

abbrev pub side_point : Side → CirclePoint → CirclePoint
side_point Plus d = d
side_point Minus d = record { p = d.p; q = neg_ℤ d.q; h = d.h }

-- the stress in the axes of the ply on a side, at a strain of the wall
abbrev pub side_stress : Lamina → CirclePoint → Side → OffAxis → OnAxis
side_stress l d side e = ply_stress l (strain_on_axis (cosine (side_point side d)) (sine (side_point side d)) e)

-- that stress in the axes of the wall
abbrev pub side_wall_stress : Lamina → CirclePoint → Side → OffAxis → OffAxis
side_wall_stress l d side e =
    stress_off_axis (cosine (side_point side d)) (sine (side_point side d)) (side_stress l d side e)

abbrev pub mean : ℚ → ℚ → ℚ
mean a b = (a +ℚ b) *ℚ fraction (pos 1) (pos 2)

-- the stress that a layer carries at a strain of the wall: of a ply, that of its side; of a pair, the mean of both sides
abbrev pub layer_stress : Kind → Lamina → CirclePoint → OffAxis → OffAxis
layer_stress Ply l d e = side_wall_stress l d Plus e
layer_stress Pair l d e =
    let plus = side_wall_stress l d Plus e in
    let minus = side_wall_stress l d Minus e in
    record { x = mean plus.x minus.x; y = mean plus.y minus.y; s = mean plus.s minus.s }
