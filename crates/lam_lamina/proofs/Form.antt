-- The twice_energy of a layer's stress in its strain lies between floor and q0 times the strain's strain_squares.
use Rattle.std.proofs.Common.{◌≡◌, refl, sym, subst, subst₂, ℤ, pos, [], ◌∷◌}
use Rattle.lam_fraction.specs.Fraction.{ℚ, whole, ◌+ℚ◌, ◌-ℚ◌, ◌*ℚ◌, opposite, fraction, ◌≤ℚ◌, ◌<ℚ◌, ◌/ℚ◌}
use Rattle.lam_fraction.proofs.FractionRing.{distributes}
use Rattle.lam_fraction.proofs.Expression.{int, ◌⊕◌, ◌⊖◌, ◌⊗◌, minus}
use Rattle.lam_fraction.proofs.Solver.{quotes, ◌≐◌}
use Rattle.lam_fraction.proofs.Rationals.{by_ring, solve, from₁, above, weaken, number, at_most, at_most_over, square, positive_number, ◌+ₙ◌, ◌*ₙ◌}
use Rattle.lam_fraction.proofs.FractionBounds.{sum_monotone, at_most_quotient}
use Rattle.lam_direction.specs.Circle.{CirclePoint, IsDirection}
use Rattle.lam_stock.specs.declared.item.Lamina.{Lamina}
use Rattle.lam_stock.specs.declared.item.Kind.{Kind}
use Rattle.lam_stock.specs.declared.item.Kind.TheVariants.{Ply, Pair}
use Rattle.lam_stock.specs.PlyLaw.{OffAxis, OnAxis, two, mean, ply_stress, strain_on_axis, cosine, sine, Side, Plus, Minus, side_point, side_wall_stress, layer_stress, reduced_11, reduced_12, reduced_22, reduced_66}
use Rattle.lam_stock.specs.Energy.{twice_energy, twice_energy_on_axis, strain_squares, strain_squares_on_axis}
use Rattle.lam_lamina.proofs.Moduli.{IsElastic, Spans, Underlies, along_stiff, trace_positive, trace_at_most, determinant_positive, determinant_at_least, shear_at_most, shear_at_least}
use Rattle.lam_stock.proofs.Angles.{two_halves, side-angle}
use Rattle.lam_stock.proofs.EnergyTransformed.{twice_energy-transformed, strain_squares-transformed}

-- ---- normal components and shear apart

normal-least : (f q11 q12 q22 a b : ℚ) → whole (pos 0) <ℚ q11 +ℚ q22 → f *ℚ (q11 +ℚ q22) ≤ℚ q11 *ℚ q22 -ℚ q12 *ℚ q12
    → f *ℚ (a *ℚ a +ℚ b *ℚ b) ≤ℚ (q11 *ℚ a +ℚ q12 *ℚ b) *ℚ a +ℚ (q12 *ℚ a +ℚ q22 *ℚ b) *ℚ b
unfolding ◌-ℚ◌ ◌/ℚ◌
normal-least f q11 q12 q22 a b trace low =
    at_most_over trace (above low *ₙ (square a +ₙ square b) +ₙ square (q11 *ℚ a +ℚ q12 *ℚ b) +ₙ square (q12 *ℚ a +ℚ q22 *ℚ b))
    (solve 6 (λ f q11 q12 q22 a b.
    let t = q11 ⊗ a ⊕ q12 ⊗ b in
    let u = q12 ⊗ a ⊕ q22 ⊗ b in
    (q11 ⊕ q22) ⊗ (t ⊗ a ⊕ u ⊗ b ⊖ f ⊗ (a ⊗ a ⊕ b ⊗ b)) ≐ (q11 ⊗ q22 ⊖ q12 ⊗ q12 ⊖ f ⊗ (q11 ⊕ q22)) ⊗ (a ⊗ a ⊕ b ⊗ b) ⊕ t ⊗ t ⊕ u ⊗ u) refl f q11 q12 q22 a b)

normal-greatest : (f q11 q12 q22 a b : ℚ) → whole (pos 0) <ℚ q11 → whole (pos 0) <ℚ q11 *ℚ q22 -ℚ q12 *ℚ q12 → q11 +ℚ q22 ≤ℚ f
    → (q11 *ℚ a +ℚ q12 *ℚ b) *ℚ a +ℚ (q12 *ℚ a +ℚ q22 *ℚ b) *ℚ b ≤ℚ f *ℚ (a *ℚ a +ℚ b *ℚ b)
unfolding ◌-ℚ◌ ◌/ℚ◌
normal-greatest f q11 q12 q22 a b stiff determinant high =
    at_most_over stiff (weaken stiff *ₙ above high *ₙ (square a +ₙ square b) +ₙ weaken determinant *ₙ square a +ₙ square (q11 *ℚ b -ℚ q12 *ℚ a))
    (solve 6 (λ f q11 q12 q22 a b.
    q11 ⊗ (f ⊗ (a ⊗ a ⊕ b ⊗ b) ⊖ ((q11 ⊗ a ⊕ q12 ⊗ b) ⊗ a ⊕ (q12 ⊗ a ⊕ q22 ⊗ b) ⊗ b))
    ≐ q11 ⊗ (f ⊖ (q11 ⊕ q22)) ⊗ (a ⊗ a ⊕ b ⊗ b) ⊕ (q11 ⊗ q22 ⊖ q12 ⊗ q12) ⊗ (a ⊗ a) ⊕ (q11 ⊗ b ⊖ q12 ⊗ a) ⊗ (q11 ⊗ b ⊖ q12 ⊗ a)) refl f q11 q12 q22 a b)

pub half_not_negative : whole (pos 0) ≤ℚ fraction (pos 1) (pos 2)
unfolding fraction ◌-ℚ◌ ◌/ℚ◌
half_not_negative = (at_most_quotient (whole (pos 1)) two (whole (pos 0)) (positive_number 1)).1
    (at_most (number 1) (solve 0 (int (pos 1) ⊖ int (pos 0) ⊗ int (pos 2) ≐ int (pos 1)) refl))

shear-least : (f q a : ℚ) → f ≤ℚ two *ℚ q → f *ℚ (fraction (pos 1) (pos 2) *ℚ (a *ℚ a)) ≤ℚ q *ℚ a *ℚ a
unfolding ◌-ℚ◌ ◌/ℚ◌
shear-least f q a low =
    at_most (half_not_negative *ₙ above low *ₙ square a)
    (from₁ (opposite (q *ℚ a *ℚ a)) two_halves
    (solve 4 (λ f q a h. q ⊗ a ⊗ a ⊖ f ⊗ (h ⊗ (a ⊗ a)) ≐ h ⊗ (int (pos 2) ⊗ q ⊖ f) ⊗ (a ⊗ a) ⊕ minus (q ⊗ a ⊗ a) ⊗ (h ⊗ int (pos 2) ⊖ int (pos 1))) refl f q a (fraction (pos 1) (pos 2))))

shear-greatest : (f q a : ℚ) → two *ℚ q ≤ℚ f → q *ℚ a *ℚ a ≤ℚ f *ℚ (fraction (pos 1) (pos 2) *ℚ (a *ℚ a))
unfolding ◌-ℚ◌ ◌/ℚ◌
shear-greatest f q a high =
    at_most (half_not_negative *ₙ above high *ₙ square a)
    (from₁ (q *ℚ a *ℚ a) two_halves
    (solve 4 (λ f q a h. f ⊗ (h ⊗ (a ⊗ a)) ⊖ q ⊗ a ⊗ a ≐ h ⊗ (f ⊖ int (pos 2) ⊗ q) ⊗ (a ⊗ a) ⊕ q ⊗ a ⊗ a ⊗ (h ⊗ int (pos 2) ⊖ int (pos 1))) refl f q a (fraction (pos 1) (pos 2))))

-- ---- a ply in its own axes

pub ply-least : {l : Lamina} {floor : ℤ} → IsElastic l → Underlies floor l → (e : OnAxis) → whole floor *ℚ strain_squares_on_axis e ≤ℚ twice_energy_on_axis (ply_stress l e) e
ply-least {l} {floor} elastic under e =
    subst (λ x. x ≤ℚ twice_energy_on_axis (ply_stress l e) e) (sym (distributes (whole floor) _ _))
    (sum_monotone
    (normal-least (whole floor) (reduced_11 l) (reduced_12 l) (reduced_22 l) e.along e.across (trace_positive l elastic) (determinant_at_least l elastic under))
    (shear-least (whole floor) (reduced_66 l) e.shear (shear_at_least l elastic under)))

pub ply-greatest : {l : Lamina} {q0 : ℤ} → IsElastic l → Spans q0 l → (e : OnAxis) → twice_energy_on_axis (ply_stress l e) e ≤ℚ whole q0 *ℚ strain_squares_on_axis e
ply-greatest {l} {q0} elastic spans e =
    subst (λ x. twice_energy_on_axis (ply_stress l e) e ≤ℚ x) (sym (distributes (whole q0) _ _))
    (sum_monotone
    (normal-greatest (whole q0) (reduced_11 l) (reduced_12 l) (reduced_22 l) e.along e.across (along_stiff l elastic) (determinant_positive l elastic) (trace_at_most l elastic spans))
    (shear-greatest (whole q0) (reduced_66 l) e.shear (shear_at_most l elastic spans)))

-- ---- a side in the axes of the wall

pub side-least : {l : Lamina} {d : CirclePoint} {floor : ℤ} (side : Side) → IsElastic l → Underlies floor l → IsDirection d
    → (e : OffAxis) → whole floor *ℚ strain_squares e ≤ℚ twice_energy (side_wall_stress l d side e) e
side-least {l} {d} {floor} side elastic under direction e =
    let c = cosine (side_point side d) in
    let s = sine (side_point side d) in
    subst₂ (λ x y. whole floor *ℚ x ≤ℚ y) (strain_squares-transformed c s (side-angle side direction) e) (sym (twice_energy-transformed c s (ply_stress l (strain_on_axis c s e)) e))
    (ply-least elastic under (strain_on_axis c s e))

pub side-greatest : {l : Lamina} {d : CirclePoint} {q0 : ℤ} (side : Side) → IsElastic l → Spans q0 l → IsDirection d
    → (e : OffAxis) → twice_energy (side_wall_stress l d side e) e ≤ℚ whole q0 *ℚ strain_squares e
side-greatest {l} {d} {q0} side elastic spans direction e =
    let c = cosine (side_point side d) in
    let s = sine (side_point side d) in
    subst₂ (λ x y. x ≤ℚ whole q0 *ℚ y) (sym (twice_energy-transformed c s (ply_stress l (strain_on_axis c s e)) e)) (strain_squares-transformed c s (side-angle side direction) e)
    (ply-greatest elastic spans (strain_on_axis c s e))

-- ---- a layer

work-mean : (t u e : OffAxis) → twice_energy (record { x = mean t.x u.x; y = mean t.y u.y; s = mean t.s u.s }) e ≡ mean (twice_energy t e) (twice_energy u e)
unfolding ◌-ℚ◌ ◌/ℚ◌
work-mean t u e = by_ring (t.x ∷ t.y ∷ t.s ∷ u.x ∷ u.y ∷ u.s ∷ e.x ∷ e.y ∷ e.s ∷ fraction (pos 1) (pos 2) ∷ []) (search quotes depth 40 fits 9000) refl

mean-least : (x a b : ℚ) → x ≤ℚ a → x ≤ℚ b → x ≤ℚ mean a b
unfolding ◌-ℚ◌ ◌/ℚ◌
mean-least x a b p q =
    at_most (half_not_negative *ₙ (above p +ₙ above q))
    (from₁ x two_halves (solve 4 (λ x a b h. (a ⊕ b) ⊗ h ⊖ x ≐ h ⊗ ((a ⊖ x) ⊕ (b ⊖ x)) ⊕ x ⊗ (h ⊗ int (pos 2) ⊖ int (pos 1))) refl x a b (fraction (pos 1) (pos 2))))

mean-greatest : (x a b : ℚ) → a ≤ℚ x → b ≤ℚ x → mean a b ≤ℚ x
unfolding ◌-ℚ◌ ◌/ℚ◌
mean-greatest x a b p q =
    at_most (half_not_negative *ₙ (above p +ₙ above q))
    (from₁ (opposite x) two_halves (solve 4 (λ x a b h. x ⊖ (a ⊕ b) ⊗ h ≐ h ⊗ ((x ⊖ a) ⊕ (x ⊖ b)) ⊕ minus x ⊗ (h ⊗ int (pos 2) ⊖ int (pos 1))) refl x a b (fraction (pos 1) (pos 2))))

-- the twice_energy of a layer is at least floor times the strain_squares of its strain
pub form-least : {l : Lamina} {d : CirclePoint} {floor : ℤ} (kind : Kind) → IsElastic l → Underlies floor l → IsDirection d
    → (e : OffAxis) → whole floor *ℚ strain_squares e ≤ℚ twice_energy (layer_stress kind l d e) e
form-least Ply elastic under direction e = side-least Plus elastic under direction e
form-least {l} {d} {floor} Pair elastic under direction e =
    subst (λ x. whole floor *ℚ strain_squares e ≤ℚ x) (sym (work-mean (side_wall_stress l d Plus e) (side_wall_stress l d Minus e) e))
    (mean-least (whole floor *ℚ strain_squares e) _ _ (side-least Plus elastic under direction e) (side-least Minus elastic under direction e))

-- and at most q0 times them
pub form-greatest : {l : Lamina} {d : CirclePoint} {q0 : ℤ} (kind : Kind) → IsElastic l → Spans q0 l → IsDirection d
    → (e : OffAxis) → twice_energy (layer_stress kind l d e) e ≤ℚ whole q0 *ℚ strain_squares e
form-greatest Ply elastic spans direction e = side-greatest Plus elastic spans direction e
form-greatest {l} {d} {q0} Pair elastic spans direction e =
    subst (λ x. x ≤ℚ whole q0 *ℚ strain_squares e) (sym (work-mean (side_wall_stress l d Plus e) (side_wall_stress l d Minus e) e))
    (mean-greatest (whole q0 *ℚ strain_squares e) _ _ (side-greatest Plus elastic spans direction e) (side-greatest Minus elastic spans direction e))
