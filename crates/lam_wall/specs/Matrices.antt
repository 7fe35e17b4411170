-- The matrices of a wall (Jones, the extensional, coupling and bending stiffnesses A, B and D), without units:
-- a is A / (h q0), b is 2 B / (h² q0) and d is 4 D / (h³ q0), with h the thickness of the wall and q0 a scale of
-- stiffness in MPa.
use Rattle.std.specs.Prelude.{ℤ, pos, ◌+ℤ◌, ◌*ℤ◌, List}
use Rattle.lam_fraction.specs.Fraction.{ℚ, fraction, ◌+ℚ◌, ◌*ℚ◌}
use Rattle.lam_fraction.specs.Sums.{sum_over}
use Rattle.lam_stock.specs.declared.item.Item.{Item}
use Rattle.lam_stock.specs.PlyLaw.{OffAxis}
use Rattle.lam_lamina.specs.declared.stiffness.Sym3.{Sym3}
use Rattle.lam_lamina.specs.Stiffness.{IsStiffness, stiffness_over, stress_of}
use Rattle.lam_job.specs.Wall.{Placed, placed_plies, wall_thickness}

-- the stiffness of an item, over q0
abbrev pub stiffness_of : ℤ → Item → Sym3 ℚ
stiffness_of q0 i = stiffness_over q0 i.kind i.lamina i.dir

-- a stiffness over q0 for each item: at each strain of the wall it gives the stress of the item's layer, over q0
abbrev pub AreStiffnesses : ℤ → (Item → Sym3 ℚ) → Type 0
AreStiffnesses q0 stiffness = (i : Item) → IsStiffness q0 i.kind i.lamina i.dir (stiffness i)

-- ---- the share of a ply in each matrix of a wall of thickness h

abbrev pub extension_share : ℤ → Placed → ℚ
extension_share h p = fraction p.item.lamina.t h

abbrev pub coupling_share : ℤ → Placed → ℚ
coupling_share h p = fraction (p.item.lamina.t *ℤ (p.inner +ℤ p.outer)) (pos 2 *ℤ (h *ℤ h))

abbrev pub bending_share : ℤ → Placed → ℚ
bending_share h p =
    fraction (p.item.lamina.t *ℤ (p.inner *ℤ p.inner +ℤ p.inner *ℤ p.outer +ℤ p.outer *ℤ p.outer)) (pos 3 *ℤ (h *ℤ (h *ℤ h)))

-- ---- the matrices

pub record Matrices : Type 0 where
  pub a : Sym3 ℚ
  pub b : Sym3 ℚ
  pub d : Sym3 ℚ

-- the sum of the plies' stiffnesses, each times its share
abbrev pub shared : (Placed → ℚ) → (Item → Sym3 ℚ) → List Placed → Sym3 ℚ
shared share stiffness plies = record {
  xx = sum_over (λ p. share p *ℚ (stiffness p.item).xx) plies;
  xy = sum_over (λ p. share p *ℚ (stiffness p.item).xy) plies;
  yy = sum_over (λ p. share p *ℚ (stiffness p.item).yy) plies;
  xs = sum_over (λ p. share p *ℚ (stiffness p.item).xs) plies;
  ys = sum_over (λ p. share p *ℚ (stiffness p.item).ys) plies;
  ss = sum_over (λ p. share p *ℚ (stiffness p.item).ss) plies;
}

abbrev pub matrices : (Item → Sym3 ℚ) → List Item → Matrices
matrices stiffness wall = record {
  a = shared (extension_share (wall_thickness wall)) stiffness (placed_plies wall);
  b = shared (coupling_share (wall_thickness wall)) stiffness (placed_plies wall);
  d = shared (bending_share (wall_thickness wall)) stiffness (placed_plies wall);
}

-- ---- forces and moments by the matrices

-- the strains that curvatures per µm add at the outer surface of a wall of thickness h
abbrev pub bending_strain : ℤ → OffAxis → OffAxis
bending_strain h k = record {
  x = fraction h (pos 2) *ℚ k.x;
  y = fraction h (pos 2) *ℚ k.y;
  s = fraction h (pos 2) *ℚ k.s;
}

abbrev pub added : OffAxis → OffAxis → OffAxis
added u v = record { x = u.x +ℚ v.x; y = u.y +ℚ v.y; s = u.s +ℚ v.s }

-- the forces at mid-plane strains e and bending strains k
abbrev pub forces : Matrices → OffAxis → OffAxis → OffAxis
forces m e k = added (stress_of m.a e) (stress_of m.b k)

-- the moments at mid-plane strains e and bending strains k
abbrev pub moments : Matrices → OffAxis → OffAxis → OffAxis
moments m e k = added (stress_of m.b e) (stress_of m.d k)
