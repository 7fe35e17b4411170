-- Strains and stresses in laminate axes, component by component.
use Rattle.std.proofs.Common.{◌≡◌, refl, ap, pos}
use Rattle.lam_fraction.specs.Fraction.{ℚ, whole, ◌+ℚ◌, ◌-ℚ◌}
use Rattle.lam_fraction.proofs.Expression.{◌⊕◌, ◌⊖◌}
use Rattle.lam_fraction.proofs.Solver.{◌≐◌}
use Rattle.lam_fraction.proofs.Rationals.{solve}
use Rattle.lam_fraction.proofs.WholeFractions.{same_is_zero, same_of_zero}
use Rattle.lam_stock.specs.PlyLaw.{OffAxis}
use Rattle.lam_stock.proofs.EnergyTransformed.{same_off_axis}
use Rattle.lam_wall.specs.Matrices.{added}

abbrev pub none : OffAxis
none = record { x = whole (pos 0); y = whole (pos 0); s = whole (pos 0) }

-- ---- differences

-- the difference of two strains or stresses
abbrev pub less : OffAxis → OffAxis → OffAxis
less u v = record { x = u.x -ℚ v.x; y = u.y -ℚ v.y; s = u.s -ℚ v.s }

pub same_is_none : {u v w : OffAxis} → u ≡ w → v ≡ w → less u v ≡ none
same_is_none {u} {v} {w} p q = same_off_axis (same_is_zero (ap (λ t. t.x) p) (ap (λ t. t.x) q)) (same_is_zero (ap (λ t. t.y) p) (ap (λ t. t.y) q)) (same_is_zero (ap (λ t. t.s) p) (ap (λ t. t.s) q))

pub same_of_none : {u v : OffAxis} → less u v ≡ none → u ≡ v
same_of_none e = same_off_axis (same_of_zero (ap (λ t. t.x) e)) (same_of_zero (ap (λ t. t.y) e)) (same_of_zero (ap (λ t. t.s) e))

put_back : (a b : ℚ) → (a -ℚ b) +ℚ b ≡ a
unfolding ◌-ℚ◌
put_back a b = solve 2 (λ a b. (a ⊖ b) ⊕ b ≐ a) refl a b

pub added-less : (u v : OffAxis) → added (less u v) v ≡ u
added-less u v = same_off_axis (put_back u.x v.x) (put_back u.y v.y) (put_back u.s v.s)

put_on : (a b : ℚ) → a +ℚ (b -ℚ a) ≡ b
unfolding ◌-ℚ◌
put_on a b = solve 2 (λ a b. a ⊕ (b ⊖ a) ≐ b) refl a b

pub less-added : (u v : OffAxis) → added u (less v u) ≡ v
less-added u v = same_off_axis (put_on u.x v.x) (put_on u.y v.y) (put_on u.s v.s)
