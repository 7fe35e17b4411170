-- How fractions are compared, added and multiplied by their numerators and denominators.
use Rattle.std.specs.Prelude.{◌≡◌, ◌↔◌, ℤ, pos, ◌+ℤ◌, ◌*ℤ◌, ◌≤ℤ◌, ◌<ℤ◌}
use Rattle.lam_fraction.specs.Fraction.{fraction, ◌+ℚ◌, ◌*ℚ◌, ◌≤ℚ◌, ◌<ℚ◌}

abbrev pub EqualByCrossProducts : Type 0
EqualByCrossProducts = (n d m e : ℤ) → pos 0 <ℤ d → pos 0 <ℤ e → (fraction n d ≡ fraction m e) ↔ (n *ℤ e ≡ m *ℤ d)

abbrev pub SumByCrossProducts : Type 0
SumByCrossProducts = (n d m e : ℤ) → pos 0 <ℤ d → pos 0 <ℤ e → fraction n d +ℚ fraction m e ≡ fraction (n *ℤ e +ℤ m *ℤ d) (d *ℤ e)

abbrev pub ProductByCrossProducts : Type 0
ProductByCrossProducts = (n d m e : ℤ) → pos 0 <ℤ d → pos 0 <ℤ e → fraction n d *ℚ fraction m e ≡ fraction (n *ℤ m) (d *ℤ e)

abbrev pub OrderByCrossProducts : Type 0
OrderByCrossProducts = (n d m e : ℤ) → pos 0 <ℤ d → pos 0 <ℤ e
    → ((fraction n d ≤ℚ fraction m e) ↔ ((n *ℤ e) ≤ℤ (m *ℤ d))) × ((fraction n d <ℚ fraction m e) ↔ ((n *ℤ e) <ℤ (m *ℤ d)))
