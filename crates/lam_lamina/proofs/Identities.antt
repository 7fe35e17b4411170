-- The usual formulas of the transformed stiffness are the ply law, transformed.
use Rattle.std.proofs.Common.{◌≡◌, refl, sym, ◌∙◌, ap, subst, ℤ, pos, [], ◌∷◌}
use Rattle.lam_fraction.specs.Fraction.{ℚ, whole, ◌+ℚ◌, ◌-ℚ◌, ◌*ℚ◌, ◌/ℚ◌, opposite, inverse, fraction}
use Rattle.lam_fraction.proofs.Expression.{int, ◌⊕◌, ◌⊗◌}
use Rattle.lam_fraction.proofs.Solver.{quotes, ◌≐◌}
use Rattle.lam_fraction.proofs.Rationals.{by_ring, solve, from₁}
use Rattle.lam_direction.specs.Circle.{CirclePoint}
use Rattle.lam_stock.specs.declared.item.Lamina.{Lamina}
use Rattle.lam_stock.specs.declared.item.Kind.{Kind}
use Rattle.lam_stock.specs.declared.item.Kind.TheVariants.{Ply, Pair}
use Rattle.lam_stock.specs.PlyLaw.{OffAxis, OnAxis, mean, strain_on_axis, stress_off_axis, cosine, sine, reduced_11, reduced_12, reduced_22, reduced_66}
use Rattle.lam_stock.proofs.Angles.{two_halves, sine-mirrored}
use Rattle.lam_stock.proofs.EnergyTransformed.{same_off_axis}
use Rattle.lam_fraction.specs.numbers.Arithmetic.{exact}
use Rattle.lam_lamina.specs.inside.Formulas as by
use Rattle.lam_lamina.specs.declared.powers.Powers.{Powers}
use Rattle.lam_lamina.specs.declared.stiffness.Reduced.{Reduced}
use Rattle.lam_lamina.specs.declared.stiffness.Sym3.{Sym3}
use Rattle.lam_lamina.specs.Stiffness.{moduli_over, stress_of, stress_over, unit_x, unit_y, unit_s, stiffness_over, IsStiffness}

-- ---- in fractions

-- the powers of a cosine and a sine
abbrev pub powers_at : ℚ → ℚ → Powers ℚ
powers_at c s =
    let cc = c *ℚ c in
    let ss = s *ℚ s in
    let sc = s *ℚ c in
    record { cosine_fourth = cc *ℚ cc; sine_fourth = ss *ℚ ss; squares = ss *ℚ cc; cosine_third = sc *ℚ cc; sine_third = sc *ℚ ss }

abbrev pub transformed_stiffness : Reduced ℚ → ℚ → ℚ → Sym3 ℚ
transformed_stiffness m c s = by.by_powers exact m (powers_at c s)

abbrev pub uncoupled_stiffness : Sym3 ℚ → Sym3 ℚ
uncoupled_stiffness m = record m { xs = whole (pos 0); ys = whole (pos 0) }

-- moduli times a number
abbrev pub times : Reduced ℚ → ℚ → Reduced ℚ
times r k = record { q11 = r.q11 *ℚ k; q12 = r.q12 *ℚ k; q22 = r.q22 *ℚ k; q66 = r.q66 *ℚ k }

-- the stress that moduli give at a strain of the ply
abbrev pub stress_by : Reduced ℚ → OnAxis → OnAxis
stress_by r e = record {
  along = r.q11 *ℚ e.along +ℚ r.q12 *ℚ e.across;
  across = r.q12 *ℚ e.along +ℚ r.q22 *ℚ e.across;
  shear = r.q66 *ℚ e.shear;
}

-- the same in the axes of the wall, at a strain of the wall
abbrev pub wall_stress_by : Reduced ℚ → ℚ → ℚ → OffAxis → OffAxis
wall_stress_by r c s e = stress_off_axis c s (stress_by r (strain_on_axis c s e))

transformed-x : (k : ℚ) (r : Reduced ℚ) (c s : ℚ) (e : OffAxis) → (stress_of (transformed_stiffness (times r k) c s) e).x ≡ (wall_stress_by r c s e).x *ℚ k
unfolding ◌-ℚ◌ ◌/ℚ◌
transformed-x k r c s e = by_ring (k ∷ r.q11 ∷ r.q12 ∷ r.q22 ∷ r.q66 ∷ c ∷ s ∷ e.x ∷ e.y ∷ e.s ∷ []) (search quotes depth 40 fits 9000) refl

transformed-y : (k : ℚ) (r : Reduced ℚ) (c s : ℚ) (e : OffAxis) → (stress_of (transformed_stiffness (times r k) c s) e).y ≡ (wall_stress_by r c s e).y *ℚ k
unfolding ◌-ℚ◌ ◌/ℚ◌
transformed-y k r c s e = by_ring (k ∷ r.q11 ∷ r.q12 ∷ r.q22 ∷ r.q66 ∷ c ∷ s ∷ e.x ∷ e.y ∷ e.s ∷ []) (search quotes depth 40 fits 9000) refl

transformed-s : (k : ℚ) (r : Reduced ℚ) (c s : ℚ) (e : OffAxis) → (stress_of (transformed_stiffness (times r k) c s) e).s ≡ (wall_stress_by r c s e).s *ℚ k
unfolding ◌-ℚ◌ ◌/ℚ◌
transformed-s k r c s e = by_ring (k ∷ r.q11 ∷ r.q12 ∷ r.q22 ∷ r.q66 ∷ c ∷ s ∷ e.x ∷ e.y ∷ e.s ∷ []) (search quotes depth 40 fits 9000) refl

-- ---- the mean of a direction and its mirror image

abbrev pub mean_stress : OffAxis → OffAxis → OffAxis
mean_stress t u = record { x = mean t.x u.x; y = mean t.y u.y; s = mean t.s u.s }

mean-x : (k : ℚ) (r : Reduced ℚ) (c s : ℚ) (e : OffAxis)
    → (stress_of (uncoupled_stiffness (transformed_stiffness (times r k) c s)) e).x ≡ (mean_stress (wall_stress_by r c s e) (wall_stress_by r c (opposite s) e)).x *ℚ k
unfolding ◌-ℚ◌ ◌/ℚ◌
mean-x k r c s e =
    sym (from₁ ((stress_of (uncoupled_stiffness (transformed_stiffness (times r k) c s)) e).x) two_halves
    (by_ring (k ∷ r.q11 ∷ r.q12 ∷ r.q22 ∷ r.q66 ∷ c ∷ s ∷ e.x ∷ e.y ∷ e.s ∷ fraction (pos 1) (pos 2) ∷ []) (search quotes depth 40 fits 9000) refl))

mean-y : (k : ℚ) (r : Reduced ℚ) (c s : ℚ) (e : OffAxis)
    → (stress_of (uncoupled_stiffness (transformed_stiffness (times r k) c s)) e).y ≡ (mean_stress (wall_stress_by r c s e) (wall_stress_by r c (opposite s) e)).y *ℚ k
unfolding ◌-ℚ◌ ◌/ℚ◌
mean-y k r c s e =
    sym (from₁ ((stress_of (uncoupled_stiffness (transformed_stiffness (times r k) c s)) e).y) two_halves
    (by_ring (k ∷ r.q11 ∷ r.q12 ∷ r.q22 ∷ r.q66 ∷ c ∷ s ∷ e.x ∷ e.y ∷ e.s ∷ fraction (pos 1) (pos 2) ∷ []) (search quotes depth 40 fits 9000) refl))

mean-s : (k : ℚ) (r : Reduced ℚ) (c s : ℚ) (e : OffAxis)
    → (stress_of (uncoupled_stiffness (transformed_stiffness (times r k) c s)) e).s ≡ (mean_stress (wall_stress_by r c s e) (wall_stress_by r c (opposite s) e)).s *ℚ k
unfolding ◌-ℚ◌ ◌/ℚ◌
mean-s k r c s e =
    sym (from₁ ((stress_of (uncoupled_stiffness (transformed_stiffness (times r k) c s)) e).s) two_halves
    (by_ring (k ∷ r.q11 ∷ r.q12 ∷ r.q22 ∷ r.q66 ∷ c ∷ s ∷ e.x ∷ e.y ∷ e.s ∷ fraction (pos 1) (pos 2) ∷ []) (search quotes depth 40 fits 9000) refl))

-- ---- of a layer

-- the reduced stiffness
abbrev pub moduli_of : Lamina → Reduced ℚ
moduli_of l = record { q11 = reduced_11 l; q12 = reduced_12 l; q22 = reduced_22 l; q66 = reduced_66 l }

ply-is : (q0 : ℤ) (l : Lamina) (d : CirclePoint) → IsStiffness q0 Ply l d (transformed_stiffness (moduli_over q0 l) (cosine d) (sine d))
unfolding moduli_over ◌/ℚ◌
ply-is q0 l d = record {
  gives = λ e.
      let k = inverse (whole q0) in
      let r = moduli_of l in
      same_off_axis (transformed-x k r (cosine d) (sine d) e) (transformed-y k r (cosine d) (sine d) e) (transformed-s k r (cosine d) (sine d) e);
}

pair-is : (q0 : ℤ) (l : Lamina) (d : CirclePoint) → IsStiffness q0 Pair l d (uncoupled_stiffness (transformed_stiffness (moduli_over q0 l) (cosine d) (sine d)))
unfolding moduli_over cosine ◌/ℚ◌
pair-is q0 l d = record {
  gives = λ e.
      let k = inverse (whole q0) in
      let r = moduli_of l in
      same_off_axis (mean-x k r (cosine d) (sine d) e) (mean-y k r (cosine d) (sine d) e) (mean-s k r (cosine d) (sine d) e)
      ∙ ap (λ s. stress_over q0 (mean_stress (wall_stress_by r (cosine d) (sine d) e) (wall_stress_by r (cosine d) s e))) (sym (sine-mirrored d));
}

-- ---- the columns

first-of : (a b c : ℚ) → a *ℚ whole (pos 1) +ℚ b *ℚ whole (pos 0) +ℚ c *ℚ whole (pos 0) ≡ a
unfolding ◌-ℚ◌ ◌/ℚ◌
first-of a b c = solve 3 (λ a b c. a ⊗ int (pos 1) ⊕ b ⊗ int (pos 0) ⊕ c ⊗ int (pos 0) ≐ a) refl a b c

second-of : (a b c : ℚ) → a *ℚ whole (pos 0) +ℚ b *ℚ whole (pos 1) +ℚ c *ℚ whole (pos 0) ≡ b
unfolding ◌-ℚ◌ ◌/ℚ◌
second-of a b c = solve 3 (λ a b c. a ⊗ int (pos 0) ⊕ b ⊗ int (pos 1) ⊕ c ⊗ int (pos 0) ≐ b) refl a b c

third-of : (a b c : ℚ) → a *ℚ whole (pos 0) +ℚ b *ℚ whole (pos 0) +ℚ c *ℚ whole (pos 1) ≡ c
unfolding ◌-ℚ◌ ◌/ℚ◌
third-of a b c = solve 3 (λ a b c. a ⊗ int (pos 0) ⊕ b ⊗ int (pos 0) ⊕ c ⊗ int (pos 1) ≐ c) refl a b c

-- the numbers that give a layer's stress at each strain are those of its stiffness
pub stiffness-only : {q0 : ℤ} {kind : Kind} {l : Lamina} {d : CirclePoint} {m : Sym3 ℚ} → IsStiffness q0 kind l d m → m ≡ stiffness_over q0 kind l d
unfolding stiffness_over
stiffness-only {m = m} h =
    let xx = sym (first-of m.xx m.xy m.xs) ∙ ap (λ t. t.x) (h.gives unit_x) in
    let xy = sym (second-of m.xx m.xy m.xs) ∙ ap (λ t. t.x) (h.gives unit_y) in
    let yy = sym (second-of m.xy m.yy m.ys) ∙ ap (λ t. t.y) (h.gives unit_y) in
    let xs = sym (third-of m.xx m.xy m.xs) ∙ ap (λ t. t.x) (h.gives unit_s) in
    let ys = sym (third-of m.xy m.yy m.ys) ∙ ap (λ t. t.y) (h.gives unit_s) in
    let ss = sym (third-of m.xs m.ys m.ss) ∙ ap (λ t. t.s) (h.gives unit_s) in
    λ i. record { xx = xx i; xy = xy i; yy = yy i; xs = xs i; ys = ys i; ss = ss i }

pub ply-stiffness : (q0 : ℤ) (l : Lamina) (d : CirclePoint) → transformed_stiffness (moduli_over q0 l) (cosine d) (sine d) ≡ stiffness_over q0 Ply l d
ply-stiffness q0 l d = stiffness-only (ply-is q0 l d)

pub pair-stiffness : (q0 : ℤ) (l : Lamina) (d : CirclePoint) → uncoupled_stiffness (transformed_stiffness (moduli_over q0 l) (cosine d) (sine d)) ≡ stiffness_over q0 Pair l d
pair-stiffness q0 l d = stiffness-only (pair-is q0 l d)

-- the columns alone give the stress at each strain
pub stiffness-gives : (q0 : ℤ) (kind : Kind) (l : Lamina) (d : CirclePoint) → IsStiffness q0 kind l d (stiffness_over q0 kind l d)
stiffness-gives q0 Ply l d = subst (IsStiffness q0 Ply l d) (ply-stiffness q0 l d) (ply-is q0 l d)
stiffness-gives q0 Pair l d = subst (IsStiffness q0 Pair l d) (pair-stiffness q0 l d) (pair-is q0 l d)
