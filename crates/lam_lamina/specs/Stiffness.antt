-- The stiffness of a layer in the axes of the wall: the six numbers that give its stress at each strain.
use Rattle.std.specs.Prelude.{◌≡◌, ℤ, pos}
use Rattle.lam_fraction.specs.Fraction.{ℚ, whole, ◌+ℚ◌, ◌*ℚ◌, ◌/ℚ◌, opposite, ◌≤ℚ◌}
use Rattle.lam_direction.specs.Circle.{CirclePoint}
use Rattle.lam_stock.specs.declared.item.Lamina.{Lamina}
use Rattle.lam_stock.specs.declared.item.Kind.{Kind}
use Rattle.lam_lamina.specs.declared.stiffness.Reduced.{Reduced}
use Rattle.lam_lamina.specs.declared.stiffness.Sym3.{Sym3}
use Rattle.lam_stock.specs.PlyLaw.{OffAxis, layer_stress, reduced_11, reduced_12, reduced_22, reduced_66}

-- the reduced stiffness of a lamina, over q0
unfoldable pub moduli_over : ℤ → Lamina → Reduced ℚ
moduli_over q0 l = record {
  q11 = reduced_11 l /ℚ whole q0;
  q12 = reduced_12 l /ℚ whole q0;
  q22 = reduced_22 l /ℚ whole q0;
  q66 = reduced_66 l /ℚ whole q0;
}

-- the stress that a matrix gives at a strain: their product
abbrev pub stress_of : Sym3 ℚ → OffAxis → OffAxis
stress_of m e = record {
  x = m.xx *ℚ e.x +ℚ m.xy *ℚ e.y +ℚ m.xs *ℚ e.s;
  y = m.xy *ℚ e.x +ℚ m.yy *ℚ e.y +ℚ m.ys *ℚ e.s;
  s = m.xs *ℚ e.x +ℚ m.ys *ℚ e.y +ℚ m.ss *ℚ e.s;
}

-- a stress over q0
abbrev pub stress_over : ℤ → OffAxis → OffAxis
stress_over q0 t = record { x = t.x /ℚ whole q0; y = t.y /ℚ whole q0; s = t.s /ℚ whole q0 }

-- the strains of size 1
abbrev pub unit_x : OffAxis
unit_x = record { x = whole (pos 1); y = whole (pos 0); s = whole (pos 0) }

abbrev pub unit_y : OffAxis
unit_y = record { x = whole (pos 0); y = whole (pos 1); s = whole (pos 0) }

abbrev pub unit_s : OffAxis
unit_s = record { x = whole (pos 0); y = whole (pos 0); s = whole (pos 1) }

-- the stiffness of a layer, over q0: its columns are the stresses that the layer carries at these strains
unfoldable pub stiffness_over : ℤ → Kind → Lamina → CirclePoint → Sym3 ℚ
stiffness_over q0 kind lamina d =
    let x = stress_over q0 (layer_stress kind lamina d unit_x) in
    let y = stress_over q0 (layer_stress kind lamina d unit_y) in
    let s = stress_over q0 (layer_stress kind lamina d unit_s) in
    record { xx = x.x; xy = y.x; yy = y.y; xs = s.x; ys = s.y; ss = s.s }

-- the numbers are the stiffness of a layer, over q0: at each strain of the wall they give the stress that it carries
pub record IsStiffness (q0 : ℤ) (kind : Kind) (lamina : Lamina) (d : CirclePoint) (m : Sym3 ℚ) : Type 0 where
  pub gives : (e : OffAxis) → stress_of m e ≡ stress_over q0 (layer_stress kind lamina d e)

-- a number is at most 1 in size
abbrev pub AtMostOne : ℚ → Type 0
AtMostOne x = (opposite (whole (pos 1)) ≤ℚ x) × (x ≤ℚ whole (pos 1))

-- each entry is
pub record IsBounded (m : Sym3 ℚ) : Type 0 where
  pub xx : AtMostOne m.xx
  pub xy : AtMostOne m.xy
  pub yy : AtMostOne m.yy
  pub xs : AtMostOne m.xs
  pub ys : AtMostOne m.ys
  pub ss : AtMostOne m.ss
