-- What the solver can do: each fact here is checked, and shows a form to write.
use Rattle.std.proofs.Common.{◌≡◌, refl, ℕ, ◌<◌, ℤ, pos, ◌+ℤ◌, ◌-ℤ◌, ◌*ℤ◌, neg_ℤ, ◌≤ℤ◌, ◌<ℤ◌, [], ◌∷◌, SFits, w64}
use lib.Signed.{shr_z}
use Rattle.lam_fraction.proofs.Ring.{Ring}
use Rattle.lam_fraction.proofs.Expression.{int, ◌⊕◌, ◌⊖◌, ◌⊗◌, ◌↑◌}
use Rattle.lam_fraction.proofs.Solver as Solver
use Rattle.lam_fraction.proofs.Solver.{◌≐◌}
use Rattle.lam_fraction.proofs.Integers.{by_ring, solve, quotes, from₁, from₂, at_most, below, at_most_over, above, strictly_above, square, weaken, ◌+ₙ◌, ◌+ₚ◌, ◌*ₙ◌, ◌*ₚ◌, product_within, floor_is}
use Rattle.lam_fraction.proofs.Ranges.{Range, within, up_to, Lies, product_range, lies_product, in_range, at_least_in_range, at_most_in_range}

-- ---- identities
square_of_a_sum : (a b : ℤ) → (a +ℤ b) *ℤ (a +ℤ b) ≡ a *ℤ a +ℤ pos 2 *ℤ a *ℤ b +ℤ b *ℤ b
square_of_a_sum a b = by_ring (a ∷ b ∷ []) (search quotes depth 20) refl

-- in any ring
module _ (R : Ring) where
  open R use {Carrier, ◌⊞◌, ◌⊡◌, opposite, image}

  square_of_a_difference : (a b : Carrier) → (a ⊞ opposite b) ⊡ (a ⊞ opposite b) ≡ a ⊡ a ⊞ opposite (image (pos 2) ⊡ a ⊡ b) ⊞ b ⊡ b
  square_of_a_difference a b = Solver.by_ring R (a ∷ b ∷ []) (search Solver.quotes depth 20) refl

lagrange : (a b c x y z : ℤ) → (a *ℤ a +ℤ b *ℤ b +ℤ c *ℤ c) *ℤ (x *ℤ x +ℤ y *ℤ y +ℤ z *ℤ z) -ℤ (a *ℤ x +ℤ b *ℤ y +ℤ c *ℤ z) *ℤ (a *ℤ x +ℤ b *ℤ y +ℤ c *ℤ z)
    ≡ (a *ℤ y -ℤ b *ℤ x) *ℤ (a *ℤ y -ℤ b *ℤ x) +ℤ (a *ℤ z -ℤ c *ℤ x) *ℤ (a *ℤ z -ℤ c *ℤ x) +ℤ (b *ℤ z -ℤ c *ℤ y) *ℤ (b *ℤ z -ℤ c *ℤ y)
lagrange a b c x y z = by_ring (a ∷ b ∷ c ∷ x ∷ y ∷ z ∷ []) (search quotes depth 20) refl

lagrange_by_formula : (a b c x y z : ℤ) → (a *ℤ a +ℤ b *ℤ b +ℤ c *ℤ c) *ℤ (x *ℤ x +ℤ y *ℤ y +ℤ z *ℤ z) -ℤ (a *ℤ x +ℤ b *ℤ y +ℤ c *ℤ z) *ℤ (a *ℤ x +ℤ b *ℤ y +ℤ c *ℤ z)
    ≡ (a *ℤ y -ℤ b *ℤ x) *ℤ (a *ℤ y -ℤ b *ℤ x) +ℤ (a *ℤ z -ℤ c *ℤ x) *ℤ (a *ℤ z -ℤ c *ℤ x) +ℤ (b *ℤ z -ℤ c *ℤ y) *ℤ (b *ℤ z -ℤ c *ℤ y)
lagrange_by_formula = solve 6 (λ a b c x y z. (a ⊗ a ⊕ b ⊗ b ⊕ c ⊗ c) ⊗ (x ⊗ x ⊕ y ⊗ y ⊕ z ⊗ z) ⊖ (a ⊗ x ⊕ b ⊗ y ⊕ c ⊗ z) ↑ 2
    ≐ (a ⊗ y ⊖ b ⊗ x) ↑ 2 ⊕ (a ⊗ z ⊖ c ⊗ x) ↑ 2 ⊕ (b ⊗ z ⊖ c ⊗ y) ↑ 2) refl

-- the stress of a layer, turned back into the wall's axes, is its turned stiffness times the wall's strain
layer_stress_along : (p q ex ey g n11 n12 n22 n66 : ℤ) → p *ℤ p *ℤ (n11 *ℤ (p *ℤ p *ℤ ex +ℤ q *ℤ q *ℤ ey +ℤ p *ℤ q *ℤ g) +ℤ n12 *ℤ (q *ℤ q *ℤ ex +ℤ p *ℤ p *ℤ ey -ℤ p *ℤ q *ℤ g)) +ℤ q *ℤ q *ℤ (n12 *ℤ (p *ℤ p *ℤ ex +ℤ q *ℤ q *ℤ ey +ℤ p *ℤ q *ℤ g) +ℤ n22 *ℤ (q *ℤ q *ℤ ex +ℤ p *ℤ p *ℤ ey -ℤ p *ℤ q *ℤ g)) -ℤ pos 2 *ℤ p *ℤ q *ℤ (n66 *ℤ (pos 2 *ℤ p *ℤ q *ℤ (ey -ℤ ex) +ℤ (p *ℤ p -ℤ q *ℤ q) *ℤ g))
    ≡ (n11 *ℤ p *ℤ p *ℤ p *ℤ p +ℤ pos 2 *ℤ (n12 +ℤ pos 2 *ℤ n66) *ℤ p *ℤ p *ℤ q *ℤ q +ℤ n22 *ℤ q *ℤ q *ℤ q *ℤ q) *ℤ ex +ℤ ((n11 +ℤ n22 -ℤ pos 4 *ℤ n66) *ℤ p *ℤ p *ℤ q *ℤ q +ℤ n12 *ℤ (p *ℤ p *ℤ p *ℤ p +ℤ q *ℤ q *ℤ q *ℤ q)) *ℤ ey +ℤ ((n11 -ℤ n12 -ℤ pos 2 *ℤ n66) *ℤ p *ℤ p *ℤ p *ℤ q +ℤ (n12 -ℤ n22 +ℤ pos 2 *ℤ n66) *ℤ p *ℤ q *ℤ q *ℤ q) *ℤ g
layer_stress_along = solve 9 (λ p q ex ey g n11 n12 n22 n66. p ⊗ p ⊗ (n11 ⊗ (p ⊗ p ⊗ ex ⊕ q ⊗ q ⊗ ey ⊕ p ⊗ q ⊗ g) ⊕ n12 ⊗ (q ⊗ q ⊗ ex ⊕ p ⊗ p ⊗ ey ⊖ p ⊗ q ⊗ g)) ⊕ q ⊗ q ⊗ (n12 ⊗ (p ⊗ p ⊗ ex ⊕ q ⊗ q ⊗ ey ⊕ p ⊗ q ⊗ g) ⊕ n22 ⊗ (q ⊗ q ⊗ ex ⊕ p ⊗ p ⊗ ey ⊖ p ⊗ q ⊗ g)) ⊖ int (pos 2) ⊗ p ⊗ q ⊗ (n66 ⊗ (int (pos 2) ⊗ p ⊗ q ⊗ (ey ⊖ ex) ⊕ (p ⊗ p ⊖ q ⊗ q) ⊗ g))
    ≐ (n11 ⊗ p ⊗ p ⊗ p ⊗ p ⊕ int (pos 2) ⊗ (n12 ⊕ int (pos 2) ⊗ n66) ⊗ p ⊗ p ⊗ q ⊗ q ⊕ n22 ⊗ q ⊗ q ⊗ q ⊗ q) ⊗ ex ⊕ ((n11 ⊕ n22 ⊖ int (pos 4) ⊗ n66) ⊗ p ⊗ p ⊗ q ⊗ q ⊕ n12 ⊗ (p ⊗ p ⊗ p ⊗ p ⊕ q ⊗ q ⊗ q ⊗ q)) ⊗ ey ⊕ ((n11 ⊖ n12 ⊖ int (pos 2) ⊗ n66) ⊗ p ⊗ p ⊗ p ⊗ q ⊕ (n12 ⊖ n22 ⊕ int (pos 2) ⊗ n66) ⊗ p ⊗ q ⊗ q ⊗ q) ⊗ g) refl

layer_stress_along_read_off : (p q ex ey g n11 n12 n22 n66 : ℤ) → p *ℤ p *ℤ (n11 *ℤ (p *ℤ p *ℤ ex +ℤ q *ℤ q *ℤ ey +ℤ p *ℤ q *ℤ g) +ℤ n12 *ℤ (q *ℤ q *ℤ ex +ℤ p *ℤ p *ℤ ey -ℤ p *ℤ q *ℤ g)) +ℤ q *ℤ q *ℤ (n12 *ℤ (p *ℤ p *ℤ ex +ℤ q *ℤ q *ℤ ey +ℤ p *ℤ q *ℤ g) +ℤ n22 *ℤ (q *ℤ q *ℤ ex +ℤ p *ℤ p *ℤ ey -ℤ p *ℤ q *ℤ g)) -ℤ pos 2 *ℤ p *ℤ q *ℤ (n66 *ℤ (pos 2 *ℤ p *ℤ q *ℤ (ey -ℤ ex) +ℤ (p *ℤ p -ℤ q *ℤ q) *ℤ g))
    ≡ (n11 *ℤ p *ℤ p *ℤ p *ℤ p +ℤ pos 2 *ℤ (n12 +ℤ pos 2 *ℤ n66) *ℤ p *ℤ p *ℤ q *ℤ q +ℤ n22 *ℤ q *ℤ q *ℤ q *ℤ q) *ℤ ex +ℤ ((n11 +ℤ n22 -ℤ pos 4 *ℤ n66) *ℤ p *ℤ p *ℤ q *ℤ q +ℤ n12 *ℤ (p *ℤ p *ℤ p *ℤ p +ℤ q *ℤ q *ℤ q *ℤ q)) *ℤ ey +ℤ ((n11 -ℤ n12 -ℤ pos 2 *ℤ n66) *ℤ p *ℤ p *ℤ p *ℤ q +ℤ (n12 -ℤ n22 +ℤ pos 2 *ℤ n66) *ℤ p *ℤ q *ℤ q *ℤ q) *ℤ g
layer_stress_along_read_off p q ex ey g n11 n12 n22 n66 = by_ring (p ∷ q ∷ ex ∷ ey ∷ g ∷ n11 ∷ n12 ∷ n22 ∷ n66 ∷ []) (search quotes depth 40 fits 9000) refl

layer_stress_across : (p q ex ey g n11 n12 n22 n66 : ℤ) → q *ℤ q *ℤ (n11 *ℤ (p *ℤ p *ℤ ex +ℤ q *ℤ q *ℤ ey +ℤ p *ℤ q *ℤ g) +ℤ n12 *ℤ (q *ℤ q *ℤ ex +ℤ p *ℤ p *ℤ ey -ℤ p *ℤ q *ℤ g)) +ℤ p *ℤ p *ℤ (n12 *ℤ (p *ℤ p *ℤ ex +ℤ q *ℤ q *ℤ ey +ℤ p *ℤ q *ℤ g) +ℤ n22 *ℤ (q *ℤ q *ℤ ex +ℤ p *ℤ p *ℤ ey -ℤ p *ℤ q *ℤ g)) +ℤ pos 2 *ℤ p *ℤ q *ℤ (n66 *ℤ (pos 2 *ℤ p *ℤ q *ℤ (ey -ℤ ex) +ℤ (p *ℤ p -ℤ q *ℤ q) *ℤ g))
    ≡ ((n11 +ℤ n22 -ℤ pos 4 *ℤ n66) *ℤ p *ℤ p *ℤ q *ℤ q +ℤ n12 *ℤ (p *ℤ p *ℤ p *ℤ p +ℤ q *ℤ q *ℤ q *ℤ q)) *ℤ ex +ℤ (n11 *ℤ q *ℤ q *ℤ q *ℤ q +ℤ pos 2 *ℤ (n12 +ℤ pos 2 *ℤ n66) *ℤ p *ℤ p *ℤ q *ℤ q +ℤ n22 *ℤ p *ℤ p *ℤ p *ℤ p) *ℤ ey +ℤ ((n11 -ℤ n12 -ℤ pos 2 *ℤ n66) *ℤ p *ℤ q *ℤ q *ℤ q +ℤ (n12 -ℤ n22 +ℤ pos 2 *ℤ n66) *ℤ p *ℤ p *ℤ p *ℤ q) *ℤ g
layer_stress_across = solve 9 (λ p q ex ey g n11 n12 n22 n66. q ⊗ q ⊗ (n11 ⊗ (p ⊗ p ⊗ ex ⊕ q ⊗ q ⊗ ey ⊕ p ⊗ q ⊗ g) ⊕ n12 ⊗ (q ⊗ q ⊗ ex ⊕ p ⊗ p ⊗ ey ⊖ p ⊗ q ⊗ g)) ⊕ p ⊗ p ⊗ (n12 ⊗ (p ⊗ p ⊗ ex ⊕ q ⊗ q ⊗ ey ⊕ p ⊗ q ⊗ g) ⊕ n22 ⊗ (q ⊗ q ⊗ ex ⊕ p ⊗ p ⊗ ey ⊖ p ⊗ q ⊗ g)) ⊕ int (pos 2) ⊗ p ⊗ q ⊗ (n66 ⊗ (int (pos 2) ⊗ p ⊗ q ⊗ (ey ⊖ ex) ⊕ (p ⊗ p ⊖ q ⊗ q) ⊗ g))
    ≐ ((n11 ⊕ n22 ⊖ int (pos 4) ⊗ n66) ⊗ p ⊗ p ⊗ q ⊗ q ⊕ n12 ⊗ (p ⊗ p ⊗ p ⊗ p ⊕ q ⊗ q ⊗ q ⊗ q)) ⊗ ex ⊕ (n11 ⊗ q ⊗ q ⊗ q ⊗ q ⊕ int (pos 2) ⊗ (n12 ⊕ int (pos 2) ⊗ n66) ⊗ p ⊗ p ⊗ q ⊗ q ⊕ n22 ⊗ p ⊗ p ⊗ p ⊗ p) ⊗ ey ⊕ ((n11 ⊖ n12 ⊖ int (pos 2) ⊗ n66) ⊗ p ⊗ q ⊗ q ⊗ q ⊕ (n12 ⊖ n22 ⊕ int (pos 2) ⊗ n66) ⊗ p ⊗ p ⊗ p ⊗ q) ⊗ g) refl

layer_stress_shear : (p q ex ey g n11 n12 n22 n66 : ℤ) → p *ℤ q *ℤ (n11 *ℤ (p *ℤ p *ℤ ex +ℤ q *ℤ q *ℤ ey +ℤ p *ℤ q *ℤ g) +ℤ n12 *ℤ (q *ℤ q *ℤ ex +ℤ p *ℤ p *ℤ ey -ℤ p *ℤ q *ℤ g)) -ℤ p *ℤ q *ℤ (n12 *ℤ (p *ℤ p *ℤ ex +ℤ q *ℤ q *ℤ ey +ℤ p *ℤ q *ℤ g) +ℤ n22 *ℤ (q *ℤ q *ℤ ex +ℤ p *ℤ p *ℤ ey -ℤ p *ℤ q *ℤ g)) +ℤ (p *ℤ p -ℤ q *ℤ q) *ℤ (n66 *ℤ (pos 2 *ℤ p *ℤ q *ℤ (ey -ℤ ex) +ℤ (p *ℤ p -ℤ q *ℤ q) *ℤ g))
    ≡ ((n11 -ℤ n12 -ℤ pos 2 *ℤ n66) *ℤ p *ℤ p *ℤ p *ℤ q +ℤ (n12 -ℤ n22 +ℤ pos 2 *ℤ n66) *ℤ p *ℤ q *ℤ q *ℤ q) *ℤ ex +ℤ ((n11 -ℤ n12 -ℤ pos 2 *ℤ n66) *ℤ p *ℤ q *ℤ q *ℤ q +ℤ (n12 -ℤ n22 +ℤ pos 2 *ℤ n66) *ℤ p *ℤ p *ℤ p *ℤ q) *ℤ ey +ℤ ((n11 +ℤ n22 -ℤ pos 2 *ℤ n12 -ℤ pos 2 *ℤ n66) *ℤ p *ℤ p *ℤ q *ℤ q +ℤ n66 *ℤ (p *ℤ p *ℤ p *ℤ p +ℤ q *ℤ q *ℤ q *ℤ q)) *ℤ g
layer_stress_shear = solve 9 (λ p q ex ey g n11 n12 n22 n66. p ⊗ q ⊗ (n11 ⊗ (p ⊗ p ⊗ ex ⊕ q ⊗ q ⊗ ey ⊕ p ⊗ q ⊗ g) ⊕ n12 ⊗ (q ⊗ q ⊗ ex ⊕ p ⊗ p ⊗ ey ⊖ p ⊗ q ⊗ g)) ⊖ p ⊗ q ⊗ (n12 ⊗ (p ⊗ p ⊗ ex ⊕ q ⊗ q ⊗ ey ⊕ p ⊗ q ⊗ g) ⊕ n22 ⊗ (q ⊗ q ⊗ ex ⊕ p ⊗ p ⊗ ey ⊖ p ⊗ q ⊗ g)) ⊕ (p ⊗ p ⊖ q ⊗ q) ⊗ (n66 ⊗ (int (pos 2) ⊗ p ⊗ q ⊗ (ey ⊖ ex) ⊕ (p ⊗ p ⊖ q ⊗ q) ⊗ g))
    ≐ ((n11 ⊖ n12 ⊖ int (pos 2) ⊗ n66) ⊗ p ⊗ p ⊗ p ⊗ q ⊕ (n12 ⊖ n22 ⊕ int (pos 2) ⊗ n66) ⊗ p ⊗ q ⊗ q ⊗ q) ⊗ ex ⊕ ((n11 ⊖ n12 ⊖ int (pos 2) ⊗ n66) ⊗ p ⊗ q ⊗ q ⊗ q ⊕ (n12 ⊖ n22 ⊕ int (pos 2) ⊗ n66) ⊗ p ⊗ p ⊗ p ⊗ q) ⊗ ey ⊕ ((n11 ⊕ n22 ⊖ int (pos 2) ⊗ n12 ⊖ int (pos 2) ⊗ n66) ⊗ p ⊗ p ⊗ q ⊗ q ⊕ n66 ⊗ (p ⊗ p ⊗ p ⊗ p ⊕ q ⊗ q ⊗ q ⊗ q)) ⊗ g) refl

-- ---- identities modulo an equation
-- a strain turned into the direction p, q, h and back is the strain
turned_back : (p q h ex ey g : ℤ) → p *ℤ p +ℤ q *ℤ q ≡ h *ℤ h
    → p *ℤ p *ℤ (p *ℤ p *ℤ ex +ℤ q *ℤ q *ℤ ey +ℤ p *ℤ q *ℤ g) +ℤ q *ℤ q *ℤ (q *ℤ q *ℤ ex +ℤ p *ℤ p *ℤ ey -ℤ p *ℤ q *ℤ g) -ℤ p *ℤ q *ℤ (pos 2 *ℤ p *ℤ q *ℤ (ey -ℤ ex) +ℤ (p *ℤ p -ℤ q *ℤ q) *ℤ g)
    ≡ h *ℤ h *ℤ h *ℤ h *ℤ ex
turned_back p q h ex ey g e = from₁ ((p *ℤ p +ℤ q *ℤ q +ℤ h *ℤ h) *ℤ ex) e (by_ring (p ∷ q ∷ h ∷ ex ∷ ey ∷ g ∷ []) (search quotes depth 40 fits 9000) refl)

-- two equations: where x is a t and y is b t, the two are in the proportion of a and b
in_proportion : (a b t x y : ℤ) → x ≡ a *ℤ t → y ≡ b *ℤ t → b *ℤ x ≡ a *ℤ y
in_proportion a b t x y e f = from₂ b e (neg_ℤ a) f (by_ring (a ∷ b ∷ t ∷ x ∷ y ∷ []) (search quotes depth 20) refl)

-- ---- inequalities
twice_a_product : (x y : ℤ) → (pos 2 *ℤ x *ℤ y) ≤ℤ (x *ℤ x +ℤ y *ℤ y)
twice_a_product x y = at_most (square (x -ℤ y)) (by_ring (x ∷ y ∷ []) (search quotes depth 20) refl)

products_grow : (a b x y : ℤ) → pos 0 <ℤ a → a <ℤ b → pos 0 <ℤ x → x ≤ℤ y → (a *ℤ x) <ℤ (b *ℤ y)
products_grow a b x y h k l m = below (strictly_above k *ₚ l +ₚ (weaken h +ₙ weaken (strictly_above k)) *ₙ above m)
    (by_ring (a ∷ b ∷ x ∷ y ∷ []) (search quotes depth 20) refl)

-- a positive definite form in two unknowns, with the positive factor a in front
form_not_negative : (a b c x y : ℤ) → pos 0 <ℤ a → pos 0 ≤ℤ (a *ℤ c -ℤ b *ℤ b) → pos 0 ≤ℤ (a *ℤ x *ℤ x +ℤ pos 2 *ℤ b *ℤ x *ℤ y +ℤ c *ℤ y *ℤ y)
form_not_negative a b c x y h k = at_most_over {k = a} h (square (a *ℤ x +ℤ b *ℤ y) +ₙ k *ₙ square y) (by_ring (a ∷ b ∷ c ∷ x ∷ y ∷ []) (search quotes depth 30) refl)

cauchy_schwarz₂ : (a b x y : ℤ) → ((a *ℤ x +ℤ b *ℤ y) *ℤ (a *ℤ x +ℤ b *ℤ y)) ≤ℤ ((a *ℤ a +ℤ b *ℤ b) *ℤ (x *ℤ x +ℤ y *ℤ y))
cauchy_schwarz₂ a b x y = at_most (square (a *ℤ y -ℤ b *ℤ x)) (by_ring (a ∷ b ∷ x ∷ y ∷ []) (search quotes depth 20) refl)

cauchy_schwarz₃ : (a b c x y z : ℤ) → ((a *ℤ x +ℤ b *ℤ y +ℤ c *ℤ z) *ℤ (a *ℤ x +ℤ b *ℤ y +ℤ c *ℤ z)) ≤ℤ ((a *ℤ a +ℤ b *ℤ b +ℤ c *ℤ c) *ℤ (x *ℤ x +ℤ y *ℤ y +ℤ z *ℤ z))
cauchy_schwarz₃ a b c x y z = at_most (square (a *ℤ y -ℤ b *ℤ x) +ₙ square (a *ℤ z -ℤ c *ℤ x) +ₙ square (b *ℤ z -ℤ c *ℤ y)) (by_ring (a ∷ b ∷ c ∷ x ∷ y ∷ z ∷ []) (search quotes depth 20) refl)

-- |x y| is at most a b
bounded_product : (a b x y : ℤ) → neg_ℤ a ≤ℤ x → x ≤ℤ a → neg_ℤ b ≤ℤ y → y ≤ℤ b → (neg_ℤ (a *ℤ b) ≤ℤ (x *ℤ y)) × ((x *ℤ y) ≤ℤ (a *ℤ b))
bounded_product a b x y = product_within

-- ---- ranges
product_of_ranges : (x y : ℤ) (r s : Range) → Lies x r → Lies y s → Lies (x *ℤ y) (product_range r s)
product_of_ranges = lies_product

-- a floor by a positive number
floor : (n : ℤ) (m : ℕ) → 0 < m → ((shr_z n m *ℤ pos m) ≤ℤ n) × (n <ℤ (shr_z n m *ℤ pos m +ℤ pos m))
floor = floor_is

-- a polynomial fits an i64
fits_a_word : (s p q : ℤ) → neg_ℤ (pos 1000000) ≤ℤ s → s ≤ℤ pos 1000000 → neg_ℤ (pos 1000) ≤ℤ p → p ≤ℤ pos 1000 → pos 0 ≤ℤ q → q ≤ℤ pos 1000
    → SFits w64 (s *ℤ p *ℤ p -ℤ pos 2 *ℤ s *ℤ p *ℤ q +ℤ s *ℤ q *ℤ q)
fits_a_word s p q h₁ h₂ h₃ h₄ h₅ h₆ = in_range (s ∷ p ∷ q ∷ []) (within 1000000 ∷ within 1000 ∷ up_to 1000 ∷ []) (assumption) (search quotes depth 30) tt

abbrev two_to_ten : Range
two_to_ten = record { low = pos 2; high = pos 10 }

abbrev minus_seven_to_three : Range
minus_seven_to_three = record { low = neg_ℤ (pos 7); high = pos 3 }

bounded_by_computing : (x y : ℤ) → pos 2 ≤ℤ x → x ≤ℤ pos 10 → neg_ℤ (pos 7) ≤ℤ y → y ≤ℤ pos 3 → (neg_ℤ (pos 70) ≤ℤ (x *ℤ y)) × ((x *ℤ y) ≤ℤ pos 30)
bounded_by_computing x y h₁ h₂ h₃ h₄ = (
  at_least_in_range (x ∷ y ∷ []) (two_to_ten ∷ minus_seven_to_three ∷ []) (assumption) (search quotes depth 20) tt,
  at_most_in_range (x ∷ y ∷ []) (two_to_ten ∷ minus_seven_to_three ∷ []) (assumption) (search quotes depth 20) tt,
)

-- ---- a long one: 256 monomials of degree 8 in 15 unknowns
long_product : (a b c d e f g h i j k l m n o : ℤ) → (a +ℤ b) *ℤ (c +ℤ d) *ℤ (e +ℤ f) *ℤ (g +ℤ h) *ℤ (i +ℤ j) *ℤ (k +ℤ l) *ℤ (m +ℤ n) *ℤ (o +ℤ a)
    ≡ a *ℤ c *ℤ e *ℤ g *ℤ i *ℤ k *ℤ m *ℤ o +ℤ a *ℤ c *ℤ e *ℤ g *ℤ i *ℤ k *ℤ m *ℤ a +ℤ a *ℤ c *ℤ e *ℤ g *ℤ i *ℤ k *ℤ n *ℤ o +ℤ a *ℤ c *ℤ e *ℤ g *ℤ i *ℤ k *ℤ n *ℤ a
    +ℤ a *ℤ c *ℤ e *ℤ g *ℤ i *ℤ l *ℤ m *ℤ o +ℤ a *ℤ c *ℤ e *ℤ g *ℤ i *ℤ l *ℤ m *ℤ a +ℤ a *ℤ c *ℤ e *ℤ g *ℤ i *ℤ l *ℤ n *ℤ o +ℤ a *ℤ c *ℤ e *ℤ g *ℤ i *ℤ l *ℤ n *ℤ a
    +ℤ a *ℤ c *ℤ e *ℤ g *ℤ j *ℤ k *ℤ m *ℤ o +ℤ a *ℤ c *ℤ e *ℤ g *ℤ j *ℤ k *ℤ m *ℤ a +ℤ a *ℤ c *ℤ e *ℤ g *ℤ j *ℤ k *ℤ n *ℤ o +ℤ a *ℤ c *ℤ e *ℤ g *ℤ j *ℤ k *ℤ n *ℤ a
    +ℤ a *ℤ c *ℤ e *ℤ g *ℤ j *ℤ l *ℤ m *ℤ o +ℤ a *ℤ c *ℤ e *ℤ g *ℤ j *ℤ l *ℤ m *ℤ a +ℤ a *ℤ c *ℤ e *ℤ g *ℤ j *ℤ l *ℤ n *ℤ o +ℤ a *ℤ c *ℤ e *ℤ g *ℤ j *ℤ l *ℤ n *ℤ a
    +ℤ a *ℤ c *ℤ e *ℤ h *ℤ i *ℤ k *ℤ m *ℤ o +ℤ a *ℤ c *ℤ e *ℤ h *ℤ i *ℤ k *ℤ m *ℤ a +ℤ a *ℤ c *ℤ e *ℤ h *ℤ i *ℤ k *ℤ n *ℤ o +ℤ a *ℤ c *ℤ e *ℤ h *ℤ i *ℤ k *ℤ n *ℤ a
    +ℤ a *ℤ c *ℤ e *ℤ h *ℤ i *ℤ l *ℤ m *ℤ o +ℤ a *ℤ c *ℤ e *ℤ h *ℤ i *ℤ l *ℤ m *ℤ a +ℤ a *ℤ c *ℤ e *ℤ h *ℤ i *ℤ l *ℤ n *ℤ o +ℤ a *ℤ c *ℤ e *ℤ h *ℤ i *ℤ l *ℤ n *ℤ a
    +ℤ a *ℤ c *ℤ e *ℤ h *ℤ j *ℤ k *ℤ m *ℤ o +ℤ a *ℤ c *ℤ e *ℤ h *ℤ j *ℤ k *ℤ m *ℤ a +ℤ a *ℤ c *ℤ e *ℤ h *ℤ j *ℤ k *ℤ n *ℤ o +ℤ a *ℤ c *ℤ e *ℤ h *ℤ j *ℤ k *ℤ n *ℤ a
    +ℤ a *ℤ c *ℤ e *ℤ h *ℤ j *ℤ l *ℤ m *ℤ o +ℤ a *ℤ c *ℤ e *ℤ h *ℤ j *ℤ l *ℤ m *ℤ a +ℤ a *ℤ c *ℤ e *ℤ h *ℤ j *ℤ l *ℤ n *ℤ o +ℤ a *ℤ c *ℤ e *ℤ h *ℤ j *ℤ l *ℤ n *ℤ a
    +ℤ a *ℤ c *ℤ f *ℤ g *ℤ i *ℤ k *ℤ m *ℤ o +ℤ a *ℤ c *ℤ f *ℤ g *ℤ i *ℤ k *ℤ m *ℤ a +ℤ a *ℤ c *ℤ f *ℤ g *ℤ i *ℤ k *ℤ n *ℤ o +ℤ a *ℤ c *ℤ f *ℤ g *ℤ i *ℤ k *ℤ n *ℤ a
    +ℤ a *ℤ c *ℤ f *ℤ g *ℤ i *ℤ l *ℤ m *ℤ o +ℤ a *ℤ c *ℤ f *ℤ g *ℤ i *ℤ l *ℤ m *ℤ a +ℤ a *ℤ c *ℤ f *ℤ g *ℤ i *ℤ l *ℤ n *ℤ o +ℤ a *ℤ c *ℤ f *ℤ g *ℤ i *ℤ l *ℤ n *ℤ a
    +ℤ a *ℤ c *ℤ f *ℤ g *ℤ j *ℤ k *ℤ m *ℤ o +ℤ a *ℤ c *ℤ f *ℤ g *ℤ j *ℤ k *ℤ m *ℤ a +ℤ a *ℤ c *ℤ f *ℤ g *ℤ j *ℤ k *ℤ n *ℤ o +ℤ a *ℤ c *ℤ f *ℤ g *ℤ j *ℤ k *ℤ n *ℤ a
    +ℤ a *ℤ c *ℤ f *ℤ g *ℤ j *ℤ l *ℤ m *ℤ o +ℤ a *ℤ c *ℤ f *ℤ g *ℤ j *ℤ l *ℤ m *ℤ a +ℤ a *ℤ c *ℤ f *ℤ g *ℤ j *ℤ l *ℤ n *ℤ o +ℤ a *ℤ c *ℤ f *ℤ g *ℤ j *ℤ l *ℤ n *ℤ a
    +ℤ a *ℤ c *ℤ f *ℤ h *ℤ i *ℤ k *ℤ m *ℤ o +ℤ a *ℤ c *ℤ f *ℤ h *ℤ i *ℤ k *ℤ m *ℤ a +ℤ a *ℤ c *ℤ f *ℤ h *ℤ i *ℤ k *ℤ n *ℤ o +ℤ a *ℤ c *ℤ f *ℤ h *ℤ i *ℤ k *ℤ n *ℤ a
    +ℤ a *ℤ c *ℤ f *ℤ h *ℤ i *ℤ l *ℤ m *ℤ o +ℤ a *ℤ c *ℤ f *ℤ h *ℤ i *ℤ l *ℤ m *ℤ a +ℤ a *ℤ c *ℤ f *ℤ h *ℤ i *ℤ l *ℤ n *ℤ o +ℤ a *ℤ c *ℤ f *ℤ h *ℤ i *ℤ l *ℤ n *ℤ a
    +ℤ a *ℤ c *ℤ f *ℤ h *ℤ j *ℤ k *ℤ m *ℤ o +ℤ a *ℤ c *ℤ f *ℤ h *ℤ j *ℤ k *ℤ m *ℤ a +ℤ a *ℤ c *ℤ f *ℤ h *ℤ j *ℤ k *ℤ n *ℤ o +ℤ a *ℤ c *ℤ f *ℤ h *ℤ j *ℤ k *ℤ n *ℤ a
    +ℤ a *ℤ c *ℤ f *ℤ h *ℤ j *ℤ l *ℤ m *ℤ o +ℤ a *ℤ c *ℤ f *ℤ h *ℤ j *ℤ l *ℤ m *ℤ a +ℤ a *ℤ c *ℤ f *ℤ h *ℤ j *ℤ l *ℤ n *ℤ o +ℤ a *ℤ c *ℤ f *ℤ h *ℤ j *ℤ l *ℤ n *ℤ a
    +ℤ a *ℤ d *ℤ e *ℤ g *ℤ i *ℤ k *ℤ m *ℤ o +ℤ a *ℤ d *ℤ e *ℤ g *ℤ i *ℤ k *ℤ m *ℤ a +ℤ a *ℤ d *ℤ e *ℤ g *ℤ i *ℤ k *ℤ n *ℤ o +ℤ a *ℤ d *ℤ e *ℤ g *ℤ i *ℤ k *ℤ n *ℤ a
    +ℤ a *ℤ d *ℤ e *ℤ g *ℤ i *ℤ l *ℤ m *ℤ o +ℤ a *ℤ d *ℤ e *ℤ g *ℤ i *ℤ l *ℤ m *ℤ a +ℤ a *ℤ d *ℤ e *ℤ g *ℤ i *ℤ l *ℤ n *ℤ o +ℤ a *ℤ d *ℤ e *ℤ g *ℤ i *ℤ l *ℤ n *ℤ a
    +ℤ a *ℤ d *ℤ e *ℤ g *ℤ j *ℤ k *ℤ m *ℤ o +ℤ a *ℤ d *ℤ e *ℤ g *ℤ j *ℤ k *ℤ m *ℤ a +ℤ a *ℤ d *ℤ e *ℤ g *ℤ j *ℤ k *ℤ n *ℤ o +ℤ a *ℤ d *ℤ e *ℤ g *ℤ j *ℤ k *ℤ n *ℤ a
    +ℤ a *ℤ d *ℤ e *ℤ g *ℤ j *ℤ l *ℤ m *ℤ o +ℤ a *ℤ d *ℤ e *ℤ g *ℤ j *ℤ l *ℤ m *ℤ a +ℤ a *ℤ d *ℤ e *ℤ g *ℤ j *ℤ l *ℤ n *ℤ o +ℤ a *ℤ d *ℤ e *ℤ g *ℤ j *ℤ l *ℤ n *ℤ a
    +ℤ a *ℤ d *ℤ e *ℤ h *ℤ i *ℤ k *ℤ m *ℤ o +ℤ a *ℤ d *ℤ e *ℤ h *ℤ i *ℤ k *ℤ m *ℤ a +ℤ a *ℤ d *ℤ e *ℤ h *ℤ i *ℤ k *ℤ n *ℤ o +ℤ a *ℤ d *ℤ e *ℤ h *ℤ i *ℤ k *ℤ n *ℤ a
    +ℤ a *ℤ d *ℤ e *ℤ h *ℤ i *ℤ l *ℤ m *ℤ o +ℤ a *ℤ d *ℤ e *ℤ h *ℤ i *ℤ l *ℤ m *ℤ a +ℤ a *ℤ d *ℤ e *ℤ h *ℤ i *ℤ l *ℤ n *ℤ o +ℤ a *ℤ d *ℤ e *ℤ h *ℤ i *ℤ l *ℤ n *ℤ a
    +ℤ a *ℤ d *ℤ e *ℤ h *ℤ j *ℤ k *ℤ m *ℤ o +ℤ a *ℤ d *ℤ e *ℤ h *ℤ j *ℤ k *ℤ m *ℤ a +ℤ a *ℤ d *ℤ e *ℤ h *ℤ j *ℤ k *ℤ n *ℤ o +ℤ a *ℤ d *ℤ e *ℤ h *ℤ j *ℤ k *ℤ n *ℤ a
    +ℤ a *ℤ d *ℤ e *ℤ h *ℤ j *ℤ l *ℤ m *ℤ o +ℤ a *ℤ d *ℤ e *ℤ h *ℤ j *ℤ l *ℤ m *ℤ a +ℤ a *ℤ d *ℤ e *ℤ h *ℤ j *ℤ l *ℤ n *ℤ o +ℤ a *ℤ d *ℤ e *ℤ h *ℤ j *ℤ l *ℤ n *ℤ a
    +ℤ a *ℤ d *ℤ f *ℤ g *ℤ i *ℤ k *ℤ m *ℤ o +ℤ a *ℤ d *ℤ f *ℤ g *ℤ i *ℤ k *ℤ m *ℤ a +ℤ a *ℤ d *ℤ f *ℤ g *ℤ i *ℤ k *ℤ n *ℤ o +ℤ a *ℤ d *ℤ f *ℤ g *ℤ i *ℤ k *ℤ n *ℤ a
    +ℤ a *ℤ d *ℤ f *ℤ g *ℤ i *ℤ l *ℤ m *ℤ o +ℤ a *ℤ d *ℤ f *ℤ g *ℤ i *ℤ l *ℤ m *ℤ a +ℤ a *ℤ d *ℤ f *ℤ g *ℤ i *ℤ l *ℤ n *ℤ o +ℤ a *ℤ d *ℤ f *ℤ g *ℤ i *ℤ l *ℤ n *ℤ a
    +ℤ a *ℤ d *ℤ f *ℤ g *ℤ j *ℤ k *ℤ m *ℤ o +ℤ a *ℤ d *ℤ f *ℤ g *ℤ j *ℤ k *ℤ m *ℤ a +ℤ a *ℤ d *ℤ f *ℤ g *ℤ j *ℤ k *ℤ n *ℤ o +ℤ a *ℤ d *ℤ f *ℤ g *ℤ j *ℤ k *ℤ n *ℤ a
    +ℤ a *ℤ d *ℤ f *ℤ g *ℤ j *ℤ l *ℤ m *ℤ o +ℤ a *ℤ d *ℤ f *ℤ g *ℤ j *ℤ l *ℤ m *ℤ a +ℤ a *ℤ d *ℤ f *ℤ g *ℤ j *ℤ l *ℤ n *ℤ o +ℤ a *ℤ d *ℤ f *ℤ g *ℤ j *ℤ l *ℤ n *ℤ a
    +ℤ a *ℤ d *ℤ f *ℤ h *ℤ i *ℤ k *ℤ m *ℤ o +ℤ a *ℤ d *ℤ f *ℤ h *ℤ i *ℤ k *ℤ m *ℤ a +ℤ a *ℤ d *ℤ f *ℤ h *ℤ i *ℤ k *ℤ n *ℤ o +ℤ a *ℤ d *ℤ f *ℤ h *ℤ i *ℤ k *ℤ n *ℤ a
    +ℤ a *ℤ d *ℤ f *ℤ h *ℤ i *ℤ l *ℤ m *ℤ o +ℤ a *ℤ d *ℤ f *ℤ h *ℤ i *ℤ l *ℤ m *ℤ a +ℤ a *ℤ d *ℤ f *ℤ h *ℤ i *ℤ l *ℤ n *ℤ o +ℤ a *ℤ d *ℤ f *ℤ h *ℤ i *ℤ l *ℤ n *ℤ a
    +ℤ a *ℤ d *ℤ f *ℤ h *ℤ j *ℤ k *ℤ m *ℤ o +ℤ a *ℤ d *ℤ f *ℤ h *ℤ j *ℤ k *ℤ m *ℤ a +ℤ a *ℤ d *ℤ f *ℤ h *ℤ j *ℤ k *ℤ n *ℤ o +ℤ a *ℤ d *ℤ f *ℤ h *ℤ j *ℤ k *ℤ n *ℤ a
    +ℤ a *ℤ d *ℤ f *ℤ h *ℤ j *ℤ l *ℤ m *ℤ o +ℤ a *ℤ d *ℤ f *ℤ h *ℤ j *ℤ l *ℤ m *ℤ a +ℤ a *ℤ d *ℤ f *ℤ h *ℤ j *ℤ l *ℤ n *ℤ o +ℤ a *ℤ d *ℤ f *ℤ h *ℤ j *ℤ l *ℤ n *ℤ a
    +ℤ b *ℤ c *ℤ e *ℤ g *ℤ i *ℤ k *ℤ m *ℤ o +ℤ b *ℤ c *ℤ e *ℤ g *ℤ i *ℤ k *ℤ m *ℤ a +ℤ b *ℤ c *ℤ e *ℤ g *ℤ i *ℤ k *ℤ n *ℤ o +ℤ b *ℤ c *ℤ e *ℤ g *ℤ i *ℤ k *ℤ n *ℤ a
    +ℤ b *ℤ c *ℤ e *ℤ g *ℤ i *ℤ l *ℤ m *ℤ o +ℤ b *ℤ c *ℤ e *ℤ g *ℤ i *ℤ l *ℤ m *ℤ a +ℤ b *ℤ c *ℤ e *ℤ g *ℤ i *ℤ l *ℤ n *ℤ o +ℤ b *ℤ c *ℤ e *ℤ g *ℤ i *ℤ l *ℤ n *ℤ a
    +ℤ b *ℤ c *ℤ e *ℤ g *ℤ j *ℤ k *ℤ m *ℤ o +ℤ b *ℤ c *ℤ e *ℤ g *ℤ j *ℤ k *ℤ m *ℤ a +ℤ b *ℤ c *ℤ e *ℤ g *ℤ j *ℤ k *ℤ n *ℤ o +ℤ b *ℤ c *ℤ e *ℤ g *ℤ j *ℤ k *ℤ n *ℤ a
    +ℤ b *ℤ c *ℤ e *ℤ g *ℤ j *ℤ l *ℤ m *ℤ o +ℤ b *ℤ c *ℤ e *ℤ g *ℤ j *ℤ l *ℤ m *ℤ a +ℤ b *ℤ c *ℤ e *ℤ g *ℤ j *ℤ l *ℤ n *ℤ o +ℤ b *ℤ c *ℤ e *ℤ g *ℤ j *ℤ l *ℤ n *ℤ a
    +ℤ b *ℤ c *ℤ e *ℤ h *ℤ i *ℤ k *ℤ m *ℤ o +ℤ b *ℤ c *ℤ e *ℤ h *ℤ i *ℤ k *ℤ m *ℤ a +ℤ b *ℤ c *ℤ e *ℤ h *ℤ i *ℤ k *ℤ n *ℤ o +ℤ b *ℤ c *ℤ e *ℤ h *ℤ i *ℤ k *ℤ n *ℤ a
    +ℤ b *ℤ c *ℤ e *ℤ h *ℤ i *ℤ l *ℤ m *ℤ o +ℤ b *ℤ c *ℤ e *ℤ h *ℤ i *ℤ l *ℤ m *ℤ a +ℤ b *ℤ c *ℤ e *ℤ h *ℤ i *ℤ l *ℤ n *ℤ o +ℤ b *ℤ c *ℤ e *ℤ h *ℤ i *ℤ l *ℤ n *ℤ a
    +ℤ b *ℤ c *ℤ e *ℤ h *ℤ j *ℤ k *ℤ m *ℤ o +ℤ b *ℤ c *ℤ e *ℤ h *ℤ j *ℤ k *ℤ m *ℤ a +ℤ b *ℤ c *ℤ e *ℤ h *ℤ j *ℤ k *ℤ n *ℤ o +ℤ b *ℤ c *ℤ e *ℤ h *ℤ j *ℤ k *ℤ n *ℤ a
    +ℤ b *ℤ c *ℤ e *ℤ h *ℤ j *ℤ l *ℤ m *ℤ o +ℤ b *ℤ c *ℤ e *ℤ h *ℤ j *ℤ l *ℤ m *ℤ a +ℤ b *ℤ c *ℤ e *ℤ h *ℤ j *ℤ l *ℤ n *ℤ o +ℤ b *ℤ c *ℤ e *ℤ h *ℤ j *ℤ l *ℤ n *ℤ a
    +ℤ b *ℤ c *ℤ f *ℤ g *ℤ i *ℤ k *ℤ m *ℤ o +ℤ b *ℤ c *ℤ f *ℤ g *ℤ i *ℤ k *ℤ m *ℤ a +ℤ b *ℤ c *ℤ f *ℤ g *ℤ i *ℤ k *ℤ n *ℤ o +ℤ b *ℤ c *ℤ f *ℤ g *ℤ i *ℤ k *ℤ n *ℤ a
    +ℤ b *ℤ c *ℤ f *ℤ g *ℤ i *ℤ l *ℤ m *ℤ o +ℤ b *ℤ c *ℤ f *ℤ g *ℤ i *ℤ l *ℤ m *ℤ a +ℤ b *ℤ c *ℤ f *ℤ g *ℤ i *ℤ l *ℤ n *ℤ o +ℤ b *ℤ c *ℤ f *ℤ g *ℤ i *ℤ l *ℤ n *ℤ a
    +ℤ b *ℤ c *ℤ f *ℤ g *ℤ j *ℤ k *ℤ m *ℤ o +ℤ b *ℤ c *ℤ f *ℤ g *ℤ j *ℤ k *ℤ m *ℤ a +ℤ b *ℤ c *ℤ f *ℤ g *ℤ j *ℤ k *ℤ n *ℤ o +ℤ b *ℤ c *ℤ f *ℤ g *ℤ j *ℤ k *ℤ n *ℤ a
    +ℤ b *ℤ c *ℤ f *ℤ g *ℤ j *ℤ l *ℤ m *ℤ o +ℤ b *ℤ c *ℤ f *ℤ g *ℤ j *ℤ l *ℤ m *ℤ a +ℤ b *ℤ c *ℤ f *ℤ g *ℤ j *ℤ l *ℤ n *ℤ o +ℤ b *ℤ c *ℤ f *ℤ g *ℤ j *ℤ l *ℤ n *ℤ a
    +ℤ b *ℤ c *ℤ f *ℤ h *ℤ i *ℤ k *ℤ m *ℤ o +ℤ b *ℤ c *ℤ f *ℤ h *ℤ i *ℤ k *ℤ m *ℤ a +ℤ b *ℤ c *ℤ f *ℤ h *ℤ i *ℤ k *ℤ n *ℤ o +ℤ b *ℤ c *ℤ f *ℤ h *ℤ i *ℤ k *ℤ n *ℤ a
    +ℤ b *ℤ c *ℤ f *ℤ h *ℤ i *ℤ l *ℤ m *ℤ o +ℤ b *ℤ c *ℤ f *ℤ h *ℤ i *ℤ l *ℤ m *ℤ a +ℤ b *ℤ c *ℤ f *ℤ h *ℤ i *ℤ l *ℤ n *ℤ o +ℤ b *ℤ c *ℤ f *ℤ h *ℤ i *ℤ l *ℤ n *ℤ a
    +ℤ b *ℤ c *ℤ f *ℤ h *ℤ j *ℤ k *ℤ m *ℤ o +ℤ b *ℤ c *ℤ f *ℤ h *ℤ j *ℤ k *ℤ m *ℤ a +ℤ b *ℤ c *ℤ f *ℤ h *ℤ j *ℤ k *ℤ n *ℤ o +ℤ b *ℤ c *ℤ f *ℤ h *ℤ j *ℤ k *ℤ n *ℤ a
    +ℤ b *ℤ c *ℤ f *ℤ h *ℤ j *ℤ l *ℤ m *ℤ o +ℤ b *ℤ c *ℤ f *ℤ h *ℤ j *ℤ l *ℤ m *ℤ a +ℤ b *ℤ c *ℤ f *ℤ h *ℤ j *ℤ l *ℤ n *ℤ o +ℤ b *ℤ c *ℤ f *ℤ h *ℤ j *ℤ l *ℤ n *ℤ a
    +ℤ b *ℤ d *ℤ e *ℤ g *ℤ i *ℤ k *ℤ m *ℤ o +ℤ b *ℤ d *ℤ e *ℤ g *ℤ i *ℤ k *ℤ m *ℤ a +ℤ b *ℤ d *ℤ e *ℤ g *ℤ i *ℤ k *ℤ n *ℤ o +ℤ b *ℤ d *ℤ e *ℤ g *ℤ i *ℤ k *ℤ n *ℤ a
    +ℤ b *ℤ d *ℤ e *ℤ g *ℤ i *ℤ l *ℤ m *ℤ o +ℤ b *ℤ d *ℤ e *ℤ g *ℤ i *ℤ l *ℤ m *ℤ a +ℤ b *ℤ d *ℤ e *ℤ g *ℤ i *ℤ l *ℤ n *ℤ o +ℤ b *ℤ d *ℤ e *ℤ g *ℤ i *ℤ l *ℤ n *ℤ a
    +ℤ b *ℤ d *ℤ e *ℤ g *ℤ j *ℤ k *ℤ m *ℤ o +ℤ b *ℤ d *ℤ e *ℤ g *ℤ j *ℤ k *ℤ m *ℤ a +ℤ b *ℤ d *ℤ e *ℤ g *ℤ j *ℤ k *ℤ n *ℤ o +ℤ b *ℤ d *ℤ e *ℤ g *ℤ j *ℤ k *ℤ n *ℤ a
    +ℤ b *ℤ d *ℤ e *ℤ g *ℤ j *ℤ l *ℤ m *ℤ o +ℤ b *ℤ d *ℤ e *ℤ g *ℤ j *ℤ l *ℤ m *ℤ a +ℤ b *ℤ d *ℤ e *ℤ g *ℤ j *ℤ l *ℤ n *ℤ o +ℤ b *ℤ d *ℤ e *ℤ g *ℤ j *ℤ l *ℤ n *ℤ a
    +ℤ b *ℤ d *ℤ e *ℤ h *ℤ i *ℤ k *ℤ m *ℤ o +ℤ b *ℤ d *ℤ e *ℤ h *ℤ i *ℤ k *ℤ m *ℤ a +ℤ b *ℤ d *ℤ e *ℤ h *ℤ i *ℤ k *ℤ n *ℤ o +ℤ b *ℤ d *ℤ e *ℤ h *ℤ i *ℤ k *ℤ n *ℤ a
    +ℤ b *ℤ d *ℤ e *ℤ h *ℤ i *ℤ l *ℤ m *ℤ o +ℤ b *ℤ d *ℤ e *ℤ h *ℤ i *ℤ l *ℤ m *ℤ a +ℤ b *ℤ d *ℤ e *ℤ h *ℤ i *ℤ l *ℤ n *ℤ o +ℤ b *ℤ d *ℤ e *ℤ h *ℤ i *ℤ l *ℤ n *ℤ a
    +ℤ b *ℤ d *ℤ e *ℤ h *ℤ j *ℤ k *ℤ m *ℤ o +ℤ b *ℤ d *ℤ e *ℤ h *ℤ j *ℤ k *ℤ m *ℤ a +ℤ b *ℤ d *ℤ e *ℤ h *ℤ j *ℤ k *ℤ n *ℤ o +ℤ b *ℤ d *ℤ e *ℤ h *ℤ j *ℤ k *ℤ n *ℤ a
    +ℤ b *ℤ d *ℤ e *ℤ h *ℤ j *ℤ l *ℤ m *ℤ o +ℤ b *ℤ d *ℤ e *ℤ h *ℤ j *ℤ l *ℤ m *ℤ a +ℤ b *ℤ d *ℤ e *ℤ h *ℤ j *ℤ l *ℤ n *ℤ o +ℤ b *ℤ d *ℤ e *ℤ h *ℤ j *ℤ l *ℤ n *ℤ a
    +ℤ b *ℤ d *ℤ f *ℤ g *ℤ i *ℤ k *ℤ m *ℤ o +ℤ b *ℤ d *ℤ f *ℤ g *ℤ i *ℤ k *ℤ m *ℤ a +ℤ b *ℤ d *ℤ f *ℤ g *ℤ i *ℤ k *ℤ n *ℤ o +ℤ b *ℤ d *ℤ f *ℤ g *ℤ i *ℤ k *ℤ n *ℤ a
    +ℤ b *ℤ d *ℤ f *ℤ g *ℤ i *ℤ l *ℤ m *ℤ o +ℤ b *ℤ d *ℤ f *ℤ g *ℤ i *ℤ l *ℤ m *ℤ a +ℤ b *ℤ d *ℤ f *ℤ g *ℤ i *ℤ l *ℤ n *ℤ o +ℤ b *ℤ d *ℤ f *ℤ g *ℤ i *ℤ l *ℤ n *ℤ a
    +ℤ b *ℤ d *ℤ f *ℤ g *ℤ j *ℤ k *ℤ m *ℤ o +ℤ b *ℤ d *ℤ f *ℤ g *ℤ j *ℤ k *ℤ m *ℤ a +ℤ b *ℤ d *ℤ f *ℤ g *ℤ j *ℤ k *ℤ n *ℤ o +ℤ b *ℤ d *ℤ f *ℤ g *ℤ j *ℤ k *ℤ n *ℤ a
    +ℤ b *ℤ d *ℤ f *ℤ g *ℤ j *ℤ l *ℤ m *ℤ o +ℤ b *ℤ d *ℤ f *ℤ g *ℤ j *ℤ l *ℤ m *ℤ a +ℤ b *ℤ d *ℤ f *ℤ g *ℤ j *ℤ l *ℤ n *ℤ o +ℤ b *ℤ d *ℤ f *ℤ g *ℤ j *ℤ l *ℤ n *ℤ a
    +ℤ b *ℤ d *ℤ f *ℤ h *ℤ i *ℤ k *ℤ m *ℤ o +ℤ b *ℤ d *ℤ f *ℤ h *ℤ i *ℤ k *ℤ m *ℤ a +ℤ b *ℤ d *ℤ f *ℤ h *ℤ i *ℤ k *ℤ n *ℤ o +ℤ b *ℤ d *ℤ f *ℤ h *ℤ i *ℤ k *ℤ n *ℤ a
    +ℤ b *ℤ d *ℤ f *ℤ h *ℤ i *ℤ l *ℤ m *ℤ o +ℤ b *ℤ d *ℤ f *ℤ h *ℤ i *ℤ l *ℤ m *ℤ a +ℤ b *ℤ d *ℤ f *ℤ h *ℤ i *ℤ l *ℤ n *ℤ o +ℤ b *ℤ d *ℤ f *ℤ h *ℤ i *ℤ l *ℤ n *ℤ a
    +ℤ b *ℤ d *ℤ f *ℤ h *ℤ j *ℤ k *ℤ m *ℤ o +ℤ b *ℤ d *ℤ f *ℤ h *ℤ j *ℤ k *ℤ m *ℤ a +ℤ b *ℤ d *ℤ f *ℤ h *ℤ j *ℤ k *ℤ n *ℤ o +ℤ b *ℤ d *ℤ f *ℤ h *ℤ j *ℤ k *ℤ n *ℤ a
    +ℤ b *ℤ d *ℤ f *ℤ h *ℤ j *ℤ l *ℤ m *ℤ o +ℤ b *ℤ d *ℤ f *ℤ h *ℤ j *ℤ l *ℤ m *ℤ a +ℤ b *ℤ d *ℤ f *ℤ h *ℤ j *ℤ l *ℤ n *ℤ o +ℤ b *ℤ d *ℤ f *ℤ h *ℤ j *ℤ l *ℤ n *ℤ a
long_product = solve 15 (λ a b c d e f g h i j k l m n o. (a ⊕ b) ⊗ (c ⊕ d) ⊗ (e ⊕ f) ⊗ (g ⊕ h) ⊗ (i ⊕ j) ⊗ (k ⊕ l) ⊗ (m ⊕ n) ⊗ (o ⊕ a)
    ≐ a ⊗ c ⊗ e ⊗ g ⊗ i ⊗ k ⊗ m ⊗ o ⊕ a ⊗ c ⊗ e ⊗ g ⊗ i ⊗ k ⊗ m ⊗ a ⊕ a ⊗ c ⊗ e ⊗ g ⊗ i ⊗ k ⊗ n ⊗ o ⊕ a ⊗ c ⊗ e ⊗ g ⊗ i ⊗ k ⊗ n ⊗ a
    ⊕ a ⊗ c ⊗ e ⊗ g ⊗ i ⊗ l ⊗ m ⊗ o ⊕ a ⊗ c ⊗ e ⊗ g ⊗ i ⊗ l ⊗ m ⊗ a ⊕ a ⊗ c ⊗ e ⊗ g ⊗ i ⊗ l ⊗ n ⊗ o ⊕ a ⊗ c ⊗ e ⊗ g ⊗ i ⊗ l ⊗ n ⊗ a
    ⊕ a ⊗ c ⊗ e ⊗ g ⊗ j ⊗ k ⊗ m ⊗ o ⊕ a ⊗ c ⊗ e ⊗ g ⊗ j ⊗ k ⊗ m ⊗ a ⊕ a ⊗ c ⊗ e ⊗ g ⊗ j ⊗ k ⊗ n ⊗ o ⊕ a ⊗ c ⊗ e ⊗ g ⊗ j ⊗ k ⊗ n ⊗ a
    ⊕ a ⊗ c ⊗ e ⊗ g ⊗ j ⊗ l ⊗ m ⊗ o ⊕ a ⊗ c ⊗ e ⊗ g ⊗ j ⊗ l ⊗ m ⊗ a ⊕ a ⊗ c ⊗ e ⊗ g ⊗ j ⊗ l ⊗ n ⊗ o ⊕ a ⊗ c ⊗ e ⊗ g ⊗ j ⊗ l ⊗ n ⊗ a
    ⊕ a ⊗ c ⊗ e ⊗ h ⊗ i ⊗ k ⊗ m ⊗ o ⊕ a ⊗ c ⊗ e ⊗ h ⊗ i ⊗ k ⊗ m ⊗ a ⊕ a ⊗ c ⊗ e ⊗ h ⊗ i ⊗ k ⊗ n ⊗ o ⊕ a ⊗ c ⊗ e ⊗ h ⊗ i ⊗ k ⊗ n ⊗ a
    ⊕ a ⊗ c ⊗ e ⊗ h ⊗ i ⊗ l ⊗ m ⊗ o ⊕ a ⊗ c ⊗ e ⊗ h ⊗ i ⊗ l ⊗ m ⊗ a ⊕ a ⊗ c ⊗ e ⊗ h ⊗ i ⊗ l ⊗ n ⊗ o ⊕ a ⊗ c ⊗ e ⊗ h ⊗ i ⊗ l ⊗ n ⊗ a
    ⊕ a ⊗ c ⊗ e ⊗ h ⊗ j ⊗ k ⊗ m ⊗ o ⊕ a ⊗ c ⊗ e ⊗ h ⊗ j ⊗ k ⊗ m ⊗ a ⊕ a ⊗ c ⊗ e ⊗ h ⊗ j ⊗ k ⊗ n ⊗ o ⊕ a ⊗ c ⊗ e ⊗ h ⊗ j ⊗ k ⊗ n ⊗ a
    ⊕ a ⊗ c ⊗ e ⊗ h ⊗ j ⊗ l ⊗ m ⊗ o ⊕ a ⊗ c ⊗ e ⊗ h ⊗ j ⊗ l ⊗ m ⊗ a ⊕ a ⊗ c ⊗ e ⊗ h ⊗ j ⊗ l ⊗ n ⊗ o ⊕ a ⊗ c ⊗ e ⊗ h ⊗ j ⊗ l ⊗ n ⊗ a
    ⊕ a ⊗ c ⊗ f ⊗ g ⊗ i ⊗ k ⊗ m ⊗ o ⊕ a ⊗ c ⊗ f ⊗ g ⊗ i ⊗ k ⊗ m ⊗ a ⊕ a ⊗ c ⊗ f ⊗ g ⊗ i ⊗ k ⊗ n ⊗ o ⊕ a ⊗ c ⊗ f ⊗ g ⊗ i ⊗ k ⊗ n ⊗ a
    ⊕ a ⊗ c ⊗ f ⊗ g ⊗ i ⊗ l ⊗ m ⊗ o ⊕ a ⊗ c ⊗ f ⊗ g ⊗ i ⊗ l ⊗ m ⊗ a ⊕ a ⊗ c ⊗ f ⊗ g ⊗ i ⊗ l ⊗ n ⊗ o ⊕ a ⊗ c ⊗ f ⊗ g ⊗ i ⊗ l ⊗ n ⊗ a
    ⊕ a ⊗ c ⊗ f ⊗ g ⊗ j ⊗ k ⊗ m ⊗ o ⊕ a ⊗ c ⊗ f ⊗ g ⊗ j ⊗ k ⊗ m ⊗ a ⊕ a ⊗ c ⊗ f ⊗ g ⊗ j ⊗ k ⊗ n ⊗ o ⊕ a ⊗ c ⊗ f ⊗ g ⊗ j ⊗ k ⊗ n ⊗ a
    ⊕ a ⊗ c ⊗ f ⊗ g ⊗ j ⊗ l ⊗ m ⊗ o ⊕ a ⊗ c ⊗ f ⊗ g ⊗ j ⊗ l ⊗ m ⊗ a ⊕ a ⊗ c ⊗ f ⊗ g ⊗ j ⊗ l ⊗ n ⊗ o ⊕ a ⊗ c ⊗ f ⊗ g ⊗ j ⊗ l ⊗ n ⊗ a
    ⊕ a ⊗ c ⊗ f ⊗ h ⊗ i ⊗ k ⊗ m ⊗ o ⊕ a ⊗ c ⊗ f ⊗ h ⊗ i ⊗ k ⊗ m ⊗ a ⊕ a ⊗ c ⊗ f ⊗ h ⊗ i ⊗ k ⊗ n ⊗ o ⊕ a ⊗ c ⊗ f ⊗ h ⊗ i ⊗ k ⊗ n ⊗ a
    ⊕ a ⊗ c ⊗ f ⊗ h ⊗ i ⊗ l ⊗ m ⊗ o ⊕ a ⊗ c ⊗ f ⊗ h ⊗ i ⊗ l ⊗ m ⊗ a ⊕ a ⊗ c ⊗ f ⊗ h ⊗ i ⊗ l ⊗ n ⊗ o ⊕ a ⊗ c ⊗ f ⊗ h ⊗ i ⊗ l ⊗ n ⊗ a
    ⊕ a ⊗ c ⊗ f ⊗ h ⊗ j ⊗ k ⊗ m ⊗ o ⊕ a ⊗ c ⊗ f ⊗ h ⊗ j ⊗ k ⊗ m ⊗ a ⊕ a ⊗ c ⊗ f ⊗ h ⊗ j ⊗ k ⊗ n ⊗ o ⊕ a ⊗ c ⊗ f ⊗ h ⊗ j ⊗ k ⊗ n ⊗ a
    ⊕ a ⊗ c ⊗ f ⊗ h ⊗ j ⊗ l ⊗ m ⊗ o ⊕ a ⊗ c ⊗ f ⊗ h ⊗ j ⊗ l ⊗ m ⊗ a ⊕ a ⊗ c ⊗ f ⊗ h ⊗ j ⊗ l ⊗ n ⊗ o ⊕ a ⊗ c ⊗ f ⊗ h ⊗ j ⊗ l ⊗ n ⊗ a
    ⊕ a ⊗ d ⊗ e ⊗ g ⊗ i ⊗ k ⊗ m ⊗ o ⊕ a ⊗ d ⊗ e ⊗ g ⊗ i ⊗ k ⊗ m ⊗ a ⊕ a ⊗ d ⊗ e ⊗ g ⊗ i ⊗ k ⊗ n ⊗ o ⊕ a ⊗ d ⊗ e ⊗ g ⊗ i ⊗ k ⊗ n ⊗ a
    ⊕ a ⊗ d ⊗ e ⊗ g ⊗ i ⊗ l ⊗ m ⊗ o ⊕ a ⊗ d ⊗ e ⊗ g ⊗ i ⊗ l ⊗ m ⊗ a ⊕ a ⊗ d ⊗ e ⊗ g ⊗ i ⊗ l ⊗ n ⊗ o ⊕ a ⊗ d ⊗ e ⊗ g ⊗ i ⊗ l ⊗ n ⊗ a
    ⊕ a ⊗ d ⊗ e ⊗ g ⊗ j ⊗ k ⊗ m ⊗ o ⊕ a ⊗ d ⊗ e ⊗ g ⊗ j ⊗ k ⊗ m ⊗ a ⊕ a ⊗ d ⊗ e ⊗ g ⊗ j ⊗ k ⊗ n ⊗ o ⊕ a ⊗ d ⊗ e ⊗ g ⊗ j ⊗ k ⊗ n ⊗ a
    ⊕ a ⊗ d ⊗ e ⊗ g ⊗ j ⊗ l ⊗ m ⊗ o ⊕ a ⊗ d ⊗ e ⊗ g ⊗ j ⊗ l ⊗ m ⊗ a ⊕ a ⊗ d ⊗ e ⊗ g ⊗ j ⊗ l ⊗ n ⊗ o ⊕ a ⊗ d ⊗ e ⊗ g ⊗ j ⊗ l ⊗ n ⊗ a
    ⊕ a ⊗ d ⊗ e ⊗ h ⊗ i ⊗ k ⊗ m ⊗ o ⊕ a ⊗ d ⊗ e ⊗ h ⊗ i ⊗ k ⊗ m ⊗ a ⊕ a ⊗ d ⊗ e ⊗ h ⊗ i ⊗ k ⊗ n ⊗ o ⊕ a ⊗ d ⊗ e ⊗ h ⊗ i ⊗ k ⊗ n ⊗ a
    ⊕ a ⊗ d ⊗ e ⊗ h ⊗ i ⊗ l ⊗ m ⊗ o ⊕ a ⊗ d ⊗ e ⊗ h ⊗ i ⊗ l ⊗ m ⊗ a ⊕ a ⊗ d ⊗ e ⊗ h ⊗ i ⊗ l ⊗ n ⊗ o ⊕ a ⊗ d ⊗ e ⊗ h ⊗ i ⊗ l ⊗ n ⊗ a
    ⊕ a ⊗ d ⊗ e ⊗ h ⊗ j ⊗ k ⊗ m ⊗ o ⊕ a ⊗ d ⊗ e ⊗ h ⊗ j ⊗ k ⊗ m ⊗ a ⊕ a ⊗ d ⊗ e ⊗ h ⊗ j ⊗ k ⊗ n ⊗ o ⊕ a ⊗ d ⊗ e ⊗ h ⊗ j ⊗ k ⊗ n ⊗ a
    ⊕ a ⊗ d ⊗ e ⊗ h ⊗ j ⊗ l ⊗ m ⊗ o ⊕ a ⊗ d ⊗ e ⊗ h ⊗ j ⊗ l ⊗ m ⊗ a ⊕ a ⊗ d ⊗ e ⊗ h ⊗ j ⊗ l ⊗ n ⊗ o ⊕ a ⊗ d ⊗ e ⊗ h ⊗ j ⊗ l ⊗ n ⊗ a
    ⊕ a ⊗ d ⊗ f ⊗ g ⊗ i ⊗ k ⊗ m ⊗ o ⊕ a ⊗ d ⊗ f ⊗ g ⊗ i ⊗ k ⊗ m ⊗ a ⊕ a ⊗ d ⊗ f ⊗ g ⊗ i ⊗ k ⊗ n ⊗ o ⊕ a ⊗ d ⊗ f ⊗ g ⊗ i ⊗ k ⊗ n ⊗ a
    ⊕ a ⊗ d ⊗ f ⊗ g ⊗ i ⊗ l ⊗ m ⊗ o ⊕ a ⊗ d ⊗ f ⊗ g ⊗ i ⊗ l ⊗ m ⊗ a ⊕ a ⊗ d ⊗ f ⊗ g ⊗ i ⊗ l ⊗ n ⊗ o ⊕ a ⊗ d ⊗ f ⊗ g ⊗ i ⊗ l ⊗ n ⊗ a
    ⊕ a ⊗ d ⊗ f ⊗ g ⊗ j ⊗ k ⊗ m ⊗ o ⊕ a ⊗ d ⊗ f ⊗ g ⊗ j ⊗ k ⊗ m ⊗ a ⊕ a ⊗ d ⊗ f ⊗ g ⊗ j ⊗ k ⊗ n ⊗ o ⊕ a ⊗ d ⊗ f ⊗ g ⊗ j ⊗ k ⊗ n ⊗ a
    ⊕ a ⊗ d ⊗ f ⊗ g ⊗ j ⊗ l ⊗ m ⊗ o ⊕ a ⊗ d ⊗ f ⊗ g ⊗ j ⊗ l ⊗ m ⊗ a ⊕ a ⊗ d ⊗ f ⊗ g ⊗ j ⊗ l ⊗ n ⊗ o ⊕ a ⊗ d ⊗ f ⊗ g ⊗ j ⊗ l ⊗ n ⊗ a
    ⊕ a ⊗ d ⊗ f ⊗ h ⊗ i ⊗ k ⊗ m ⊗ o ⊕ a ⊗ d ⊗ f ⊗ h ⊗ i ⊗ k ⊗ m ⊗ a ⊕ a ⊗ d ⊗ f ⊗ h ⊗ i ⊗ k ⊗ n ⊗ o ⊕ a ⊗ d ⊗ f ⊗ h ⊗ i ⊗ k ⊗ n ⊗ a
    ⊕ a ⊗ d ⊗ f ⊗ h ⊗ i ⊗ l ⊗ m ⊗ o ⊕ a ⊗ d ⊗ f ⊗ h ⊗ i ⊗ l ⊗ m ⊗ a ⊕ a ⊗ d ⊗ f ⊗ h ⊗ i ⊗ l ⊗ n ⊗ o ⊕ a ⊗ d ⊗ f ⊗ h ⊗ i ⊗ l ⊗ n ⊗ a
    ⊕ a ⊗ d ⊗ f ⊗ h ⊗ j ⊗ k ⊗ m ⊗ o ⊕ a ⊗ d ⊗ f ⊗ h ⊗ j ⊗ k ⊗ m ⊗ a ⊕ a ⊗ d ⊗ f ⊗ h ⊗ j ⊗ k ⊗ n ⊗ o ⊕ a ⊗ d ⊗ f ⊗ h ⊗ j ⊗ k ⊗ n ⊗ a
    ⊕ a ⊗ d ⊗ f ⊗ h ⊗ j ⊗ l ⊗ m ⊗ o ⊕ a ⊗ d ⊗ f ⊗ h ⊗ j ⊗ l ⊗ m ⊗ a ⊕ a ⊗ d ⊗ f ⊗ h ⊗ j ⊗ l ⊗ n ⊗ o ⊕ a ⊗ d ⊗ f ⊗ h ⊗ j ⊗ l ⊗ n ⊗ a
    ⊕ b ⊗ c ⊗ e ⊗ g ⊗ i ⊗ k ⊗ m ⊗ o ⊕ b ⊗ c ⊗ e ⊗ g ⊗ i ⊗ k ⊗ m ⊗ a ⊕ b ⊗ c ⊗ e ⊗ g ⊗ i ⊗ k ⊗ n ⊗ o ⊕ b ⊗ c ⊗ e ⊗ g ⊗ i ⊗ k ⊗ n ⊗ a
    ⊕ b ⊗ c ⊗ e ⊗ g ⊗ i ⊗ l ⊗ m ⊗ o ⊕ b ⊗ c ⊗ e ⊗ g ⊗ i ⊗ l ⊗ m ⊗ a ⊕ b ⊗ c ⊗ e ⊗ g ⊗ i ⊗ l ⊗ n ⊗ o ⊕ b ⊗ c ⊗ e ⊗ g ⊗ i ⊗ l ⊗ n ⊗ a
    ⊕ b ⊗ c ⊗ e ⊗ g ⊗ j ⊗ k ⊗ m ⊗ o ⊕ b ⊗ c ⊗ e ⊗ g ⊗ j ⊗ k ⊗ m ⊗ a ⊕ b ⊗ c ⊗ e ⊗ g ⊗ j ⊗ k ⊗ n ⊗ o ⊕ b ⊗ c ⊗ e ⊗ g ⊗ j ⊗ k ⊗ n ⊗ a
    ⊕ b ⊗ c ⊗ e ⊗ g ⊗ j ⊗ l ⊗ m ⊗ o ⊕ b ⊗ c ⊗ e ⊗ g ⊗ j ⊗ l ⊗ m ⊗ a ⊕ b ⊗ c ⊗ e ⊗ g ⊗ j ⊗ l ⊗ n ⊗ o ⊕ b ⊗ c ⊗ e ⊗ g ⊗ j ⊗ l ⊗ n ⊗ a
    ⊕ b ⊗ c ⊗ e ⊗ h ⊗ i ⊗ k ⊗ m ⊗ o ⊕ b ⊗ c ⊗ e ⊗ h ⊗ i ⊗ k ⊗ m ⊗ a ⊕ b ⊗ c ⊗ e ⊗ h ⊗ i ⊗ k ⊗ n ⊗ o ⊕ b ⊗ c ⊗ e ⊗ h ⊗ i ⊗ k ⊗ n ⊗ a
    ⊕ b ⊗ c ⊗ e ⊗ h ⊗ i ⊗ l ⊗ m ⊗ o ⊕ b ⊗ c ⊗ e ⊗ h ⊗ i ⊗ l ⊗ m ⊗ a ⊕ b ⊗ c ⊗ e ⊗ h ⊗ i ⊗ l ⊗ n ⊗ o ⊕ b ⊗ c ⊗ e ⊗ h ⊗ i ⊗ l ⊗ n ⊗ a
    ⊕ b ⊗ c ⊗ e ⊗ h ⊗ j ⊗ k ⊗ m ⊗ o ⊕ b ⊗ c ⊗ e ⊗ h ⊗ j ⊗ k ⊗ m ⊗ a ⊕ b ⊗ c ⊗ e ⊗ h ⊗ j ⊗ k ⊗ n ⊗ o ⊕ b ⊗ c ⊗ e ⊗ h ⊗ j ⊗ k ⊗ n ⊗ a
    ⊕ b ⊗ c ⊗ e ⊗ h ⊗ j ⊗ l ⊗ m ⊗ o ⊕ b ⊗ c ⊗ e ⊗ h ⊗ j ⊗ l ⊗ m ⊗ a ⊕ b ⊗ c ⊗ e ⊗ h ⊗ j ⊗ l ⊗ n ⊗ o ⊕ b ⊗ c ⊗ e ⊗ h ⊗ j ⊗ l ⊗ n ⊗ a
    ⊕ b ⊗ c ⊗ f ⊗ g ⊗ i ⊗ k ⊗ m ⊗ o ⊕ b ⊗ c ⊗ f ⊗ g ⊗ i ⊗ k ⊗ m ⊗ a ⊕ b ⊗ c ⊗ f ⊗ g ⊗ i ⊗ k ⊗ n ⊗ o ⊕ b ⊗ c ⊗ f ⊗ g ⊗ i ⊗ k ⊗ n ⊗ a
    ⊕ b ⊗ c ⊗ f ⊗ g ⊗ i ⊗ l ⊗ m ⊗ o ⊕ b ⊗ c ⊗ f ⊗ g ⊗ i ⊗ l ⊗ m ⊗ a ⊕ b ⊗ c ⊗ f ⊗ g ⊗ i ⊗ l ⊗ n ⊗ o ⊕ b ⊗ c ⊗ f ⊗ g ⊗ i ⊗ l ⊗ n ⊗ a
    ⊕ b ⊗ c ⊗ f ⊗ g ⊗ j ⊗ k ⊗ m ⊗ o ⊕ b ⊗ c ⊗ f ⊗ g ⊗ j ⊗ k ⊗ m ⊗ a ⊕ b ⊗ c ⊗ f ⊗ g ⊗ j ⊗ k ⊗ n ⊗ o ⊕ b ⊗ c ⊗ f ⊗ g ⊗ j ⊗ k ⊗ n ⊗ a
    ⊕ b ⊗ c ⊗ f ⊗ g ⊗ j ⊗ l ⊗ m ⊗ o ⊕ b ⊗ c ⊗ f ⊗ g ⊗ j ⊗ l ⊗ m ⊗ a ⊕ b ⊗ c ⊗ f ⊗ g ⊗ j ⊗ l ⊗ n ⊗ o ⊕ b ⊗ c ⊗ f ⊗ g ⊗ j ⊗ l ⊗ n ⊗ a
    ⊕ b ⊗ c ⊗ f ⊗ h ⊗ i ⊗ k ⊗ m ⊗ o ⊕ b ⊗ c ⊗ f ⊗ h ⊗ i ⊗ k ⊗ m ⊗ a ⊕ b ⊗ c ⊗ f ⊗ h ⊗ i ⊗ k ⊗ n ⊗ o ⊕ b ⊗ c ⊗ f ⊗ h ⊗ i ⊗ k ⊗ n ⊗ a
    ⊕ b ⊗ c ⊗ f ⊗ h ⊗ i ⊗ l ⊗ m ⊗ o ⊕ b ⊗ c ⊗ f ⊗ h ⊗ i ⊗ l ⊗ m ⊗ a ⊕ b ⊗ c ⊗ f ⊗ h ⊗ i ⊗ l ⊗ n ⊗ o ⊕ b ⊗ c ⊗ f ⊗ h ⊗ i ⊗ l ⊗ n ⊗ a
    ⊕ b ⊗ c ⊗ f ⊗ h ⊗ j ⊗ k ⊗ m ⊗ o ⊕ b ⊗ c ⊗ f ⊗ h ⊗ j ⊗ k ⊗ m ⊗ a ⊕ b ⊗ c ⊗ f ⊗ h ⊗ j ⊗ k ⊗ n ⊗ o ⊕ b ⊗ c ⊗ f ⊗ h ⊗ j ⊗ k ⊗ n ⊗ a
    ⊕ b ⊗ c ⊗ f ⊗ h ⊗ j ⊗ l ⊗ m ⊗ o ⊕ b ⊗ c ⊗ f ⊗ h ⊗ j ⊗ l ⊗ m ⊗ a ⊕ b ⊗ c ⊗ f ⊗ h ⊗ j ⊗ l ⊗ n ⊗ o ⊕ b ⊗ c ⊗ f ⊗ h ⊗ j ⊗ l ⊗ n ⊗ a
    ⊕ b ⊗ d ⊗ e ⊗ g ⊗ i ⊗ k ⊗ m ⊗ o ⊕ b ⊗ d ⊗ e ⊗ g ⊗ i ⊗ k ⊗ m ⊗ a ⊕ b ⊗ d ⊗ e ⊗ g ⊗ i ⊗ k ⊗ n ⊗ o ⊕ b ⊗ d ⊗ e ⊗ g ⊗ i ⊗ k ⊗ n ⊗ a
    ⊕ b ⊗ d ⊗ e ⊗ g ⊗ i ⊗ l ⊗ m ⊗ o ⊕ b ⊗ d ⊗ e ⊗ g ⊗ i ⊗ l ⊗ m ⊗ a ⊕ b ⊗ d ⊗ e ⊗ g ⊗ i ⊗ l ⊗ n ⊗ o ⊕ b ⊗ d ⊗ e ⊗ g ⊗ i ⊗ l ⊗ n ⊗ a
    ⊕ b ⊗ d ⊗ e ⊗ g ⊗ j ⊗ k ⊗ m ⊗ o ⊕ b ⊗ d ⊗ e ⊗ g ⊗ j ⊗ k ⊗ m ⊗ a ⊕ b ⊗ d ⊗ e ⊗ g ⊗ j ⊗ k ⊗ n ⊗ o ⊕ b ⊗ d ⊗ e ⊗ g ⊗ j ⊗ k ⊗ n ⊗ a
    ⊕ b ⊗ d ⊗ e ⊗ g ⊗ j ⊗ l ⊗ m ⊗ o ⊕ b ⊗ d ⊗ e ⊗ g ⊗ j ⊗ l ⊗ m ⊗ a ⊕ b ⊗ d ⊗ e ⊗ g ⊗ j ⊗ l ⊗ n ⊗ o ⊕ b ⊗ d ⊗ e ⊗ g ⊗ j ⊗ l ⊗ n ⊗ a
    ⊕ b ⊗ d ⊗ e ⊗ h ⊗ i ⊗ k ⊗ m ⊗ o ⊕ b ⊗ d ⊗ e ⊗ h ⊗ i ⊗ k ⊗ m ⊗ a ⊕ b ⊗ d ⊗ e ⊗ h ⊗ i ⊗ k ⊗ n ⊗ o ⊕ b ⊗ d ⊗ e ⊗ h ⊗ i ⊗ k ⊗ n ⊗ a
    ⊕ b ⊗ d ⊗ e ⊗ h ⊗ i ⊗ l ⊗ m ⊗ o ⊕ b ⊗ d ⊗ e ⊗ h ⊗ i ⊗ l ⊗ m ⊗ a ⊕ b ⊗ d ⊗ e ⊗ h ⊗ i ⊗ l ⊗ n ⊗ o ⊕ b ⊗ d ⊗ e ⊗ h ⊗ i ⊗ l ⊗ n ⊗ a
    ⊕ b ⊗ d ⊗ e ⊗ h ⊗ j ⊗ k ⊗ m ⊗ o ⊕ b ⊗ d ⊗ e ⊗ h ⊗ j ⊗ k ⊗ m ⊗ a ⊕ b ⊗ d ⊗ e ⊗ h ⊗ j ⊗ k ⊗ n ⊗ o ⊕ b ⊗ d ⊗ e ⊗ h ⊗ j ⊗ k ⊗ n ⊗ a
    ⊕ b ⊗ d ⊗ e ⊗ h ⊗ j ⊗ l ⊗ m ⊗ o ⊕ b ⊗ d ⊗ e ⊗ h ⊗ j ⊗ l ⊗ m ⊗ a ⊕ b ⊗ d ⊗ e ⊗ h ⊗ j ⊗ l ⊗ n ⊗ o ⊕ b ⊗ d ⊗ e ⊗ h ⊗ j ⊗ l ⊗ n ⊗ a
    ⊕ b ⊗ d ⊗ f ⊗ g ⊗ i ⊗ k ⊗ m ⊗ o ⊕ b ⊗ d ⊗ f ⊗ g ⊗ i ⊗ k ⊗ m ⊗ a ⊕ b ⊗ d ⊗ f ⊗ g ⊗ i ⊗ k ⊗ n ⊗ o ⊕ b ⊗ d ⊗ f ⊗ g ⊗ i ⊗ k ⊗ n ⊗ a
    ⊕ b ⊗ d ⊗ f ⊗ g ⊗ i ⊗ l ⊗ m ⊗ o ⊕ b ⊗ d ⊗ f ⊗ g ⊗ i ⊗ l ⊗ m ⊗ a ⊕ b ⊗ d ⊗ f ⊗ g ⊗ i ⊗ l ⊗ n ⊗ o ⊕ b ⊗ d ⊗ f ⊗ g ⊗ i ⊗ l ⊗ n ⊗ a
    ⊕ b ⊗ d ⊗ f ⊗ g ⊗ j ⊗ k ⊗ m ⊗ o ⊕ b ⊗ d ⊗ f ⊗ g ⊗ j ⊗ k ⊗ m ⊗ a ⊕ b ⊗ d ⊗ f ⊗ g ⊗ j ⊗ k ⊗ n ⊗ o ⊕ b ⊗ d ⊗ f ⊗ g ⊗ j ⊗ k ⊗ n ⊗ a
    ⊕ b ⊗ d ⊗ f ⊗ g ⊗ j ⊗ l ⊗ m ⊗ o ⊕ b ⊗ d ⊗ f ⊗ g ⊗ j ⊗ l ⊗ m ⊗ a ⊕ b ⊗ d ⊗ f ⊗ g ⊗ j ⊗ l ⊗ n ⊗ o ⊕ b ⊗ d ⊗ f ⊗ g ⊗ j ⊗ l ⊗ n ⊗ a
    ⊕ b ⊗ d ⊗ f ⊗ h ⊗ i ⊗ k ⊗ m ⊗ o ⊕ b ⊗ d ⊗ f ⊗ h ⊗ i ⊗ k ⊗ m ⊗ a ⊕ b ⊗ d ⊗ f ⊗ h ⊗ i ⊗ k ⊗ n ⊗ o ⊕ b ⊗ d ⊗ f ⊗ h ⊗ i ⊗ k ⊗ n ⊗ a
    ⊕ b ⊗ d ⊗ f ⊗ h ⊗ i ⊗ l ⊗ m ⊗ o ⊕ b ⊗ d ⊗ f ⊗ h ⊗ i ⊗ l ⊗ m ⊗ a ⊕ b ⊗ d ⊗ f ⊗ h ⊗ i ⊗ l ⊗ n ⊗ o ⊕ b ⊗ d ⊗ f ⊗ h ⊗ i ⊗ l ⊗ n ⊗ a
    ⊕ b ⊗ d ⊗ f ⊗ h ⊗ j ⊗ k ⊗ m ⊗ o ⊕ b ⊗ d ⊗ f ⊗ h ⊗ j ⊗ k ⊗ m ⊗ a ⊕ b ⊗ d ⊗ f ⊗ h ⊗ j ⊗ k ⊗ n ⊗ o ⊕ b ⊗ d ⊗ f ⊗ h ⊗ j ⊗ k ⊗ n ⊗ a
    ⊕ b ⊗ d ⊗ f ⊗ h ⊗ j ⊗ l ⊗ m ⊗ o ⊕ b ⊗ d ⊗ f ⊗ h ⊗ j ⊗ l ⊗ m ⊗ a ⊕ b ⊗ d ⊗ f ⊗ h ⊗ j ⊗ l ⊗ n ⊗ o ⊕ b ⊗ d ⊗ f ⊗ h ⊗ j ⊗ l ⊗ n ⊗ a) refl
