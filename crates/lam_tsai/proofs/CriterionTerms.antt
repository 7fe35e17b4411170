-- The terms of the criterion in the variables of its enclosures: y/16 is a stress over 16 times a strength, and
-- each term is that of f/4096.
use Rattle.std.proofs.Common.{◌≡◌, refl, [], ◌∷◌, pos}
use Rattle.lam_fraction.specs.Fraction.{ℚ, whole, ◌-ℚ◌, ◌*ℚ◌, opposite}
use Rattle.lam_fraction.proofs.Rationals.{quotes, by_ring, from₁, from₂}

-- the linear term of an axis with strengths a and b in tension and compression; u is the stress, x and m the greater
-- and the lesser strength, ix and im one over them, and d is 1/16
pub linear_term : (a b ia ib d u : ℚ) → a *ℚ ia ≡ whole (pos 1) → b *ℚ ib ≡ whole (pos 1)
    → ((b -ℚ a) *ℚ ((d *ℚ d) *ℚ ia)) *ℚ (u *ℚ (d *ℚ ib)) ≡ (d *ℚ d *ℚ d) *ℚ (u *ℚ ia -ℚ u *ℚ ib)
linear_term a b ia ib d u e f =
    from₂ ((d *ℚ d *ℚ d) *ℚ (u *ℚ ia)) f (opposite ((d *ℚ d *ℚ d) *ℚ (u *ℚ ib))) e
    (by_ring (a ∷ b ∷ ia ∷ ib ∷ d ∷ u ∷ []) (search quotes depth 40 fits 9000) refl)

-- the same where a is the greater strength
pub linear_term_turned : (a b ia ib d u : ℚ) → a *ℚ ia ≡ whole (pos 1) → b *ℚ ib ≡ whole (pos 1)
    → ((b -ℚ a) *ℚ ((d *ℚ d) *ℚ ib)) *ℚ (u *ℚ (d *ℚ ia)) ≡ (d *ℚ d *ℚ d) *ℚ (u *ℚ ia -ℚ u *ℚ ib)
linear_term_turned a b ia ib d u e f =
    from₂ ((d *ℚ d *ℚ d) *ℚ (u *ℚ ia)) f (opposite ((d *ℚ d *ℚ d) *ℚ (u *ℚ ib))) e
    (by_ring (a ∷ b ∷ ia ∷ ib ∷ d ∷ u ∷ []) (search quotes depth 40 fits 9000) refl)

-- the quadratic term of an axis, with the greater strength x and the lesser m
pub square_term : (x ix im d u : ℚ) → x *ℚ ix ≡ whole (pos 1)
    → (x *ℚ (d *ℚ im)) *ℚ ((u *ℚ (d *ℚ ix)) *ℚ (u *ℚ (d *ℚ ix))) ≡ (d *ℚ d *ℚ d) *ℚ ((u *ℚ u) *ℚ (ix *ℚ im))
square_term x ix im d u e =
    from₁ ((d *ℚ d *ℚ d) *ℚ ((u *ℚ u) *ℚ (ix *ℚ im))) e
    (by_ring (x ∷ ix ∷ im ∷ d ∷ u ∷ []) (search quotes depth 40 fits 9000) refl)

-- the term of both axes: g is 2 F12 over 10^18 and k is 1/8, which is 2 d
pub cross_term : (x y ix iy d u v g : ℚ) → x *ℚ ix ≡ whole (pos 1) → y *ℚ iy ≡ whole (pos 1)
    → (d *ℚ (g *ℚ (x *ℚ y))) *ℚ ((u *ℚ (d *ℚ ix)) *ℚ (v *ℚ (d *ℚ iy))) ≡ (d *ℚ d *ℚ d) *ℚ (g *ℚ (u *ℚ v))
cross_term x y ix iy d u v g e f =
    from₂ ((d *ℚ d *ℚ d) *ℚ (g *ℚ (u *ℚ v)) *ℚ (y *ℚ iy)) e ((d *ℚ d *ℚ d) *ℚ (g *ℚ (u *ℚ v))) f
    (by_ring (x ∷ y ∷ ix ∷ iy ∷ d ∷ u ∷ v ∷ g ∷ []) (search quotes depth 40 fits 9000) refl)

-- the shear term
pub shear_term : (is d w : ℚ) → d *ℚ ((w *ℚ (d *ℚ is)) *ℚ (w *ℚ (d *ℚ is))) ≡ (d *ℚ d *ℚ d) *ℚ ((w *ℚ w) *ℚ (is *ℚ is))
shear_term is d w = by_ring (is ∷ d ∷ w ∷ []) (search quotes depth 40 fits 9000) refl
