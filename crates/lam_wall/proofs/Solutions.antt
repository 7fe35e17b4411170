-- Matrices whose quadratic form is above 0 at all strains but none have strains and bending strains for any forces and moments.
use Rattle.std.proofs.Common.{◌≡◌, refl, ◌∙◌, ap, ap₂, subst, pos}
use Rattle.lam_fraction.specs.Fraction.{ℚ, whole, ◌+ℚ◌, ◌-ℚ◌, ◌*ℚ◌, ◌/ℚ◌, ◌<ℚ◌}
use Rattle.lam_fraction.proofs.Expression.{int, ◌⊕◌, ◌⊖◌, ◌⊗◌}
use Rattle.lam_fraction.proofs.Solver.{◌≐◌}
use Rattle.lam_fraction.proofs.Rationals.{solve, below_over, below_then_at_most, positive_number}
use Rattle.lam_stock.specs.PlyLaw.{OffAxis}
use Rattle.lam_lamina.specs.declared.stiffness.Sym3.{Sym3}
use Rattle.lam_lamina.specs.Stiffness.{stress_of}
use Rattle.lam_stock.specs.Energy.{twice_energy}
use Rattle.lam_stock.proofs.EnergyTransformed.{same_off_axis}
use Rattle.lam_wall.specs.Energy.{mean_squares}
use Rattle.lam_wall.specs.QuadraticForm.{quadratic_form}
use Rattle.lam_wall.specs.Matrices.{Matrices, added, forces, moments}
use Rattle.lam_wall.proofs.Adjugates.{inverted, inverted-inverts, IsDefinite, Inverts}
use Rattle.lam_wall.proofs.JointEnergy.{work-turned}
use Rattle.lam_wall.proofs.OffAxes.{none, less, added-less, less-added}
use Rattle.lam_wall.proofs.MeanSquares.{strain_at_most, bending_at_most}

-- the quadratic form is above 0 at strains and bending strains whose mean squares are above 0
abbrev pub IsFormDefinite : Matrices → Type 0
IsFormDefinite m = (e k : OffAxis) → whole (pos 0) <ℚ mean_squares e k → whole (pos 0) <ℚ quadratic_form m e k

-- ---- what is left of the bending stiffness when the mid-plane strains are taken out

abbrev row_x : Sym3 ℚ → OffAxis
row_x b = record { x = b.xx; y = b.xy; s = b.xs }

abbrev row_y : Sym3 ℚ → OffAxis
row_y b = record { x = b.xy; y = b.yy; s = b.ys }

abbrev row_s : Sym3 ℚ → OffAxis
row_s b = record { x = b.xs; y = b.ys; s = b.ss }

-- d - b c b, where c is the inverse of a
unfoldable complement : Sym3 ℚ → Sym3 ℚ → Sym3 ℚ → Sym3 ℚ
complement b c d = record {
  xx = d.xx -ℚ twice_energy (stress_of c (row_x b)) (row_x b);
  xy = d.xy -ℚ twice_energy (stress_of c (row_x b)) (row_y b);
  yy = d.yy -ℚ twice_energy (stress_of c (row_y b)) (row_y b);
  xs = d.xs -ℚ twice_energy (stress_of c (row_x b)) (row_s b);
  ys = d.ys -ℚ twice_energy (stress_of c (row_y b)) (row_s b);
  ss = d.ss -ℚ twice_energy (stress_of c (row_s b)) (row_s b);
}

-- the strains by c of what is left of p when b y is taken off
abbrev strain_left : Sym3 ℚ → Sym3 ℚ → OffAxis → OffAxis → OffAxis
strain_left b c p y = stress_of c (less p (stress_of b y))

-- a row r of b and the same row q of d
complement-row : (b c : Sym3 ℚ) (r q p y : OffAxis)
    → twice_energy r (strain_left b c p y) +ℚ twice_energy q y
    ≡ twice_energy r (stress_of c p) +ℚ ((q.x -ℚ twice_energy (stress_of c r) (row_x b)) *ℚ y.x +ℚ (q.y -ℚ twice_energy (stress_of c r) (row_y b)) *ℚ y.y +ℚ (q.s -ℚ twice_energy (stress_of c r) (row_s b)) *ℚ y.s)
unfolding ◌-ℚ◌ ◌/ℚ◌
complement-row b c r q p y = solve 24 (λ bxx bxy byy bxs bys bss cxx cxy cyy cxs cys css rx ry rs qx qy qs px py ps yx yy ys.
    let tx = cxx ⊗ rx ⊕ cxy ⊗ ry ⊕ cxs ⊗ rs in
    let ty = cxy ⊗ rx ⊕ cyy ⊗ ry ⊕ cys ⊗ rs in
    let ts = cxs ⊗ rx ⊕ cys ⊗ ry ⊕ css ⊗ rs in
    let ux = px ⊖ (bxx ⊗ yx ⊕ bxy ⊗ yy ⊕ bxs ⊗ ys) in
    let uy = py ⊖ (bxy ⊗ yx ⊕ byy ⊗ yy ⊕ bys ⊗ ys) in
    let us = ps ⊖ (bxs ⊗ yx ⊕ bys ⊗ yy ⊕ bss ⊗ ys) in
    (rx ⊗ (cxx ⊗ ux ⊕ cxy ⊗ uy ⊕ cxs ⊗ us) ⊕ ry ⊗ (cxy ⊗ ux ⊕ cyy ⊗ uy ⊕ cys ⊗ us) ⊕ rs ⊗ (cxs ⊗ ux ⊕ cys ⊗ uy ⊕ css ⊗ us)) ⊕ (qx ⊗ yx ⊕ qy ⊗ yy ⊕ qs ⊗ ys)
    ≐ (rx ⊗ (cxx ⊗ px ⊕ cxy ⊗ py ⊕ cxs ⊗ ps) ⊕ ry ⊗ (cxy ⊗ px ⊕ cyy ⊗ py ⊕ cys ⊗ ps) ⊕ rs ⊗ (cxs ⊗ px ⊕ cys ⊗ py ⊕ css ⊗ ps))
    ⊕ ((qx ⊖ (tx ⊗ bxx ⊕ ty ⊗ bxy ⊕ ts ⊗ bxs)) ⊗ yx ⊕ (qy ⊖ (tx ⊗ bxy ⊕ ty ⊗ byy ⊕ ts ⊗ bys)) ⊗ yy ⊕ (qs ⊖ (tx ⊗ bxs ⊕ ty ⊗ bys ⊕ ts ⊗ bss)) ⊗ ys)) refl
    b.xx b.xy b.yy b.xs b.ys b.ss c.xx c.xy c.yy c.xs c.ys c.ss r.x r.y r.s q.x q.y q.s p.x p.y p.s y.x y.y y.s

-- the moments at those strains and y
complement-gives : (b c d : Sym3 ℚ) (p y : OffAxis)
    → added (stress_of b (strain_left b c p y)) (stress_of d y) ≡ added (stress_of b (stress_of c p)) (stress_of (complement b c d) y)
unfolding complement
complement-gives b c d p y =
    let n = complement b c d in
    let at_x = complement-row b c (row_x b) (row_x d) p y in
    let at_y =
    complement-row b c (row_y b) (row_y d) p y
    ∙ ap (λ w. twice_energy (row_y b) (stress_of c p) +ℚ ((d.xy -ℚ w) *ℚ y.x +ℚ n.yy *ℚ y.y +ℚ n.ys *ℚ y.s)) (work-turned c (row_y b) (row_x b)) in
    let at_s =
    complement-row b c (row_s b) (row_s d) p y
    ∙ ap₂ (λ v w. twice_energy (row_s b) (stress_of c p) +ℚ ((d.xs -ℚ v) *ℚ y.x +ℚ (d.ys -ℚ w) *ℚ y.y +ℚ n.ss *ℚ y.s))
    (work-turned c (row_s b) (row_x b)) (work-turned c (row_s b) (row_y b)) in
    same_off_axis at_x at_y at_s

-- ---- forces and moments at the strains that are left

row-none : (a b c : ℚ) → a *ℚ whole (pos 0) +ℚ b *ℚ whole (pos 0) +ℚ c *ℚ whole (pos 0) ≡ whole (pos 0)
unfolding ◌-ℚ◌
row-none a b c = solve 3 (λ a b c. a ⊗ int (pos 0) ⊕ b ⊗ int (pos 0) ⊕ c ⊗ int (pos 0) ≐ int (pos 0)) refl a b c

stress-none : (q : Sym3 ℚ) → stress_of q none ≡ none
stress-none q = same_off_axis (row-none q.xx q.xy q.xs) (row-none q.xy q.yy q.ys) (row-none q.xs q.ys q.ss)

module _ (m : Matrices) (c : Sym3 ℚ) (inverts : Inverts m.a c) where
  forces_left : (p y : OffAxis) → forces m (strain_left m.b c p y) y ≡ p
  forces_left p y = ap (λ t. added t (stress_of m.b y)) (inverts (less p (stress_of m.b y))) ∙ added-less p (stress_of m.b y)

  moments_left : (p y : OffAxis) → moments m (strain_left m.b c p y) y ≡ added (stress_of m.b (stress_of c p)) (stress_of (complement m.b c m.d) y)
  moments_left p y = complement-gives m.b c m.d p y

  -- with no forces the quadratic form is that of the complement
  form_left : (y : OffAxis) → quadratic_form m (strain_left m.b c none y) y ≡ twice_energy (stress_of (complement m.b c m.d) y) y
  unfolding ◌-ℚ◌ ◌/ℚ◌
  form_left y =
      let e = strain_left m.b c none y in
      let t = stress_of (complement m.b c m.d) y in
      ap₂ (λ n w. twice_energy n e +ℚ twice_energy w y) (forces_left none y) (moments_left none y)
      ∙ ap (λ w. twice_energy none e +ℚ twice_energy (added w t) y) (ap (stress_of m.b) (stress-none c) ∙ stress-none m.b)
      ∙ solve 9 (λ ex ey es tx ty ts x y s.
      (int (pos 0) ⊗ ex ⊕ int (pos 0) ⊗ ey ⊕ int (pos 0) ⊗ es) ⊕ ((int (pos 0) ⊕ tx) ⊗ x ⊕ (int (pos 0) ⊕ ty) ⊗ y ⊕ (int (pos 0) ⊕ ts) ⊗ s) ≐ tx ⊗ x ⊕ ty ⊗ y ⊕ ts ⊗ s) refl
      e.x e.y e.s t.x t.y t.s y.x y.y y.s

  complement_definite : IsFormDefinite m → IsDefinite (complement m.b c m.d)
  unfolding ◌-ℚ◌ ◌/ℚ◌
  complement_definite definite y some =
      let e = strain_left m.b c none y in
      let above : whole (pos 0) <ℚ mean_squares e y = below_over (positive_number 2) (below_then_at_most some (bending_at_most e y))
      (solve 1 (λ n. int (pos 3) ⊗ (n ⊖ int (pos 0)) ≐ int (pos 3) ⊗ n) refl (mean_squares e y)) in
      subst (λ w. whole (pos 0) <ℚ w) (form_left y) (definite e y above)

-- with no bending the quadratic form is that of the first stiffness
form_unbent : (m : Matrices) (e : OffAxis) → quadratic_form m e none ≡ twice_energy (stress_of m.a e) e
unfolding ◌-ℚ◌ ◌/ℚ◌
form_unbent m e =
    let t = stress_of m.a e in
    let r = moments m e none in
    ap (λ w. twice_energy (added t w) e +ℚ twice_energy r none) (stress-none m.b)
    ∙ solve 9 (λ tx ty ts ex ey es rx ry rs.
    ((tx ⊕ int (pos 0)) ⊗ ex ⊕ (ty ⊕ int (pos 0)) ⊗ ey ⊕ (ts ⊕ int (pos 0)) ⊗ es) ⊕ (rx ⊗ int (pos 0) ⊕ ry ⊗ int (pos 0) ⊕ rs ⊗ int (pos 0)) ≐ tx ⊗ ex ⊕ ty ⊗ ey ⊕ ts ⊗ es) refl
    t.x t.y t.s e.x e.y e.s r.x r.y r.s

first_definite : (m : Matrices) → IsFormDefinite m → IsDefinite m.a
first_definite m definite e some = subst (λ w. whole (pos 0) <ℚ w) (form_unbent m e) (definite e none (below_then_at_most some (strain_at_most e none)))

-- ---- the solution

-- strains and bending strains that give these forces and moments
pub record Solution (m : Matrices) (p r : OffAxis) : Type 0 where
  pub strain : OffAxis
  pub bending : OffAxis
  pub forces_are : forces m strain bending ≡ p
  pub moments_are : moments m strain bending ≡ r

pub solution : (m : Matrices) → IsFormDefinite m → (p r : OffAxis) → Solution m p r
solution m definite p r =
    let c = inverted m.a in
    let inverts : Inverts m.a c = inverted-inverts m.a (first_definite m definite) in
    let rest = complement m.b c m.d in
    let by_strain = stress_of m.b (stress_of c p) in
    let k = stress_of (inverted rest) (less r by_strain) in record {
      strain = strain_left m.b c p k;
      bending = k;
      forces_are = forces_left m c inverts p k;
      moments_are = moments_left m c inverts p k
          ∙ ap (λ t. added by_strain t) (inverted-inverts rest (complement_definite m c inverts definite) (less r by_strain))
          ∙ less-added by_strain r;
    }
