-- The joint energy of two strains by a wall's matrices is symmetric, and forces and moments are linear in the strains.
use Rattle.std.proofs.Common.{◌≡◌, refl, sym, ◌∙◌, ap₂}
use Rattle.lam_fraction.specs.Fraction.{ℚ, ◌+ℚ◌, ◌-ℚ◌, ◌*ℚ◌, ◌/ℚ◌}
use Rattle.lam_fraction.proofs.Expression.{◌⊕◌, ◌⊖◌, ◌⊗◌}
use Rattle.lam_fraction.proofs.Solver.{◌≐◌}
use Rattle.lam_fraction.proofs.Rationals.{solve}
use Rattle.lam_stock.specs.PlyLaw.{OffAxis}
use Rattle.lam_lamina.specs.declared.stiffness.Sym3.{Sym3}
use Rattle.lam_lamina.specs.Stiffness.{stress_of}
use Rattle.lam_wall.specs.Matrices.{Matrices, added, forces, moments}
use Rattle.lam_stock.specs.Energy.{twice_energy}
use Rattle.lam_stock.proofs.EnergyTransformed.{same_off_axis}
use Rattle.lam_wall.proofs.OffAxes.{less}

-- ---- one stiffness
pub work-turned : (q : Sym3 ℚ) (u v : OffAxis) → twice_energy (stress_of q u) v ≡ twice_energy (stress_of q v) u
unfolding ◌-ℚ◌ ◌/ℚ◌
work-turned q u v = solve 12 (λ a b c d e f ux uy us vx vy vs.
    (a ⊗ ux ⊕ b ⊗ uy ⊕ d ⊗ us) ⊗ vx ⊕ (b ⊗ ux ⊕ c ⊗ uy ⊕ e ⊗ us) ⊗ vy ⊕ (d ⊗ ux ⊕ e ⊗ uy ⊕ f ⊗ us) ⊗ vs
    ≐ (a ⊗ vx ⊕ b ⊗ vy ⊕ d ⊗ vs) ⊗ ux ⊕ (b ⊗ vx ⊕ c ⊗ vy ⊕ e ⊗ vs) ⊗ uy ⊕ (d ⊗ vx ⊕ e ⊗ vy ⊕ f ⊗ vs) ⊗ us) refl
    q.xx q.xy q.yy q.xs q.ys q.ss u.x u.y u.s v.x v.y v.s

-- the work of a sum of stresses
work-sum : (t u v : OffAxis) → twice_energy (added t u) v ≡ twice_energy t v +ℚ twice_energy u v
unfolding ◌-ℚ◌ ◌/ℚ◌
work-sum t u v = solve 9 (λ tx ty ts ux uy us vx vy vs.
    (tx ⊕ ux) ⊗ vx ⊕ (ty ⊕ uy) ⊗ vy ⊕ (ts ⊕ us) ⊗ vs ≐ (tx ⊗ vx ⊕ ty ⊗ vy ⊕ ts ⊗ vs) ⊕ (ux ⊗ vx ⊕ uy ⊗ vy ⊕ us ⊗ vs)) refl
    t.x t.y t.s u.x u.y u.s v.x v.y v.s

-- ---- the matrices of a wall

-- the work of the forces and moments of the first strains in the second ones
abbrev pub joint_energy : Matrices → OffAxis → OffAxis → OffAxis → OffAxis → ℚ
joint_energy m e k u v = twice_energy (forces m e k) u +ℚ twice_energy (moments m e k) v

joint_energy-parts : (m : Matrices) (e k u v : OffAxis)
    → joint_energy m e k u v ≡ (twice_energy (stress_of m.a e) u +ℚ twice_energy (stress_of m.b k) u) +ℚ (twice_energy (stress_of m.b e) v +ℚ twice_energy (stress_of m.d k) v)
joint_energy-parts m e k u v = ap₂ ◌+ℚ◌ (work-sum (stress_of m.a e) (stress_of m.b k) u) (work-sum (stress_of m.b e) (stress_of m.d k) v)

pub joint_symmetric : (m : Matrices) (e k u v : OffAxis) → joint_energy m e k u v ≡ joint_energy m u v e k
unfolding ◌-ℚ◌ ◌/ℚ◌
joint_symmetric m e k u v =
    joint_energy-parts m e k u v
    ∙ ap₂ ◌+ℚ◌ (ap₂ ◌+ℚ◌ (work-turned m.a e u) (work-turned m.b k u)) (ap₂ ◌+ℚ◌ (work-turned m.b e v) (work-turned m.d k v))
    ∙ solve 4 (λ a b c d. (a ⊕ b) ⊕ (c ⊕ d) ≐ (a ⊕ c) ⊕ (b ⊕ d)) refl (twice_energy (stress_of m.a u) e) (twice_energy (stress_of m.b u) k) (twice_energy (stress_of m.b v) e) (twice_energy (stress_of m.d v) k)
    ∙ sym (joint_energy-parts m u v e k)

-- ---- linear in the strains

-- two rows of three, at two strains
rows-less : (a b c d e f : ℚ) (t u v w : OffAxis)
    → (a *ℚ (t.x -ℚ v.x) +ℚ b *ℚ (t.y -ℚ v.y) +ℚ c *ℚ (t.s -ℚ v.s)) +ℚ (d *ℚ (u.x -ℚ w.x) +ℚ e *ℚ (u.y -ℚ w.y) +ℚ f *ℚ (u.s -ℚ w.s))
    ≡ ((a *ℚ t.x +ℚ b *ℚ t.y +ℚ c *ℚ t.s) +ℚ (d *ℚ u.x +ℚ e *ℚ u.y +ℚ f *ℚ u.s)) -ℚ ((a *ℚ v.x +ℚ b *ℚ v.y +ℚ c *ℚ v.s) +ℚ (d *ℚ w.x +ℚ e *ℚ w.y +ℚ f *ℚ w.s))
unfolding ◌-ℚ◌ ◌/ℚ◌
rows-less a b c d e f t u v w = solve 18 (λ a b c d e f tx ty ts ux uy us vx vy vs wx wy ws.
    (a ⊗ (tx ⊖ vx) ⊕ b ⊗ (ty ⊖ vy) ⊕ c ⊗ (ts ⊖ vs)) ⊕ (d ⊗ (ux ⊖ wx) ⊕ e ⊗ (uy ⊖ wy) ⊕ f ⊗ (us ⊖ ws))
    ≐ ((a ⊗ tx ⊕ b ⊗ ty ⊕ c ⊗ ts) ⊕ (d ⊗ ux ⊕ e ⊗ uy ⊕ f ⊗ us)) ⊖ ((a ⊗ vx ⊕ b ⊗ vy ⊕ c ⊗ vs) ⊕ (d ⊗ wx ⊕ e ⊗ wy ⊕ f ⊗ ws))) refl
    a b c d e f t.x t.y t.s u.x u.y u.s v.x v.y v.s w.x w.y w.s

stresses-less : (q r : Sym3 ℚ) (t u v w : OffAxis)
    → added (stress_of q (less t v)) (stress_of r (less u w)) ≡ less (added (stress_of q t) (stress_of r u)) (added (stress_of q v) (stress_of r w))
stresses-less q r t u v w = same_off_axis
    (rows-less q.xx q.xy q.xs r.xx r.xy r.xs t u v w)
    (rows-less q.xy q.yy q.ys r.xy r.yy r.ys t u v w)
    (rows-less q.xs q.ys q.ss r.xs r.ys r.ss t u v w)

pub forces-less : (m : Matrices) (e k u v : OffAxis) → forces m (less e u) (less k v) ≡ less (forces m e k) (forces m u v)
forces-less m e k u v = stresses-less m.a m.b e k u v

pub moments-less : (m : Matrices) (e k u v : OffAxis) → moments m (less e u) (less k v) ≡ less (moments m e k) (moments m u v)
moments-less m e k u v = stresses-less m.b m.d e k u v
