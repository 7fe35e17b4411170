-- Strains and stresses in laminate axes: each is known by its components, and strain energy and the sum of squares of
-- strains are the same in ply axes.
use Rattle.std.proofs.Common.{◌≡◌, refl, pos, [], ◌∷◌}
use Rattle.lam_fraction.specs.Fraction.{ℚ, whole, fraction, ◌+ℚ◌, ◌-ℚ◌, ◌*ℚ◌, ◌/ℚ◌}
use Rattle.lam_fraction.proofs.Solver.{quotes}
use Rattle.lam_fraction.proofs.Rationals.{by_ring, from₂}
use Rattle.lam_stock.specs.Energy.{twice_energy, twice_energy_on_axis, strain_squares, strain_squares_on_axis}
use Rattle.lam_stock.specs.PlyLaw.{OffAxis, OnAxis, two, strain_on_axis, stress_off_axis}
use Rattle.lam_stock.proofs.Angles.{IsAngle, two_halves}

pub same_off_axis : {t u : OffAxis} → t.x ≡ u.x → t.y ≡ u.y → t.s ≡ u.s → t ≡ u
same_off_axis x y s = λ i. record { x = x i; y = y i; s = s i }

pub twice_energy-transformed : (c s : ℚ) (t : OnAxis) (e : OffAxis)
    → twice_energy (stress_off_axis c s t) e ≡ twice_energy_on_axis t (strain_on_axis c s e)
unfolding ◌-ℚ◌ ◌/ℚ◌
twice_energy-transformed c s t e =
    by_ring (c ∷ s ∷ t.along ∷ t.across ∷ t.shear ∷ e.x ∷ e.y ∷ e.s ∷ []) (search quotes depth 40 fits 9000) refl

pub strain_squares-transformed : (c s : ℚ) → IsAngle c s → (e : OffAxis) → strain_squares_on_axis (strain_on_axis c s e) ≡ strain_squares e
unfolding ◌-ℚ◌ ◌/ℚ◌
strain_squares-transformed c s h e =
    from₂ (strain_squares e *ℚ (c *ℚ c +ℚ s *ℚ s +ℚ whole (pos 1))) h
    (two *ℚ (s *ℚ c) *ℚ ((s *ℚ c) *ℚ (e.y -ℚ e.x) *ℚ (e.y -ℚ e.x) +ℚ (c *ℚ c -ℚ s *ℚ s) *ℚ (e.y -ℚ e.x) *ℚ e.s -ℚ (s *ℚ c) *ℚ e.s *ℚ e.s)) two_halves
    (by_ring (c ∷ s ∷ e.x ∷ e.y ∷ e.s ∷ fraction (pos 1) (pos 2) ∷ []) (search quotes depth 40 fits 9000) refl)
