-- A plate that is as stiff along as across, over every number of half waves: its load is least where a half wave is as
-- long as the plate is wide.
use Rattle.std.proofs.Common.{◌≡◌, refl, ◌∙◌, sym, ◌*◌, ℤ, pos, ◌*ℤ◌, ◌<ℤ◌, List, [], ◌∷◌, arith}
use Rattle.std.proofs.lemmas.Int.{ints}
use Rattle.lam_fraction.specs.Fraction.{ℚ, whole, fraction, class_of, ◌+ℚ◌, ◌-ℚ◌, ◌*ℚ◌, ◌/ℚ◌, inverse, is_at_most, ◌≤ℚ◌, ◌<ℚ◌}
use Rattle.lam_fraction.specs.inside.Quotient.{of_two, on_one, on_two}
use Rattle.lam_fraction.specs.inside.WholeNumbers.{product_positive}
use Rattle.lam_fraction.proofs.Expression.{int, ◌⊗◌}
use Rattle.lam_fraction.proofs.Solver.{◌≐◌}
use Rattle.lam_fraction.proofs.Integers as integers
use Rattle.lam_fraction.proofs.FractionPairs.{fraction-equal, fraction-product}
use Rattle.lam_fraction.proofs.Rationals.{quotes, by_ring, from₁, at_most, at_most_over, square, ◌*ₙ◌, above, weaken, positive_number, inverse_positive, transitive}
use Rattle.lam_fraction.proofs.WholeFractions.{fraction_positive}
use Rattle.lam_stock.specs.declared.item.Item.{Item}
use Rattle.lam_stock.specs.PlyLaw.{two}
use Rattle.lam_job.specs.JobData.{PanelData}
use Rattle.lam_job.specs.Plate.{stiffness_11, stiffness_12, stiffness_22, stiffness_66, circle_square, panel_load, PanelAtLeast}

-- of two numbers whose product is a square, the sum is least where they are equal
least_sum : (u v w : ℚ) → whole (pos 0) <ℚ u → u *ℚ v ≡ w *ℚ w → (w +ℚ w) ≤ℚ (u +ℚ v)
least_sum u v w h e = at_most_over h (square (u -ℚ w)) (from₁ (whole (pos 1)) e (by_ring (u ∷ v ∷ w ∷ []) (search quotes depth 40 fits 9000) refl))

-- and so is the bracket of the formula, times c and over h
least_bracket : (c d e middle h u v w : ℚ) → whole (pos 0) ≤ℚ c → whole (pos 0) ≤ℚ d → whole (pos 0) <ℚ h → e ≡ d → (w +ℚ w) ≤ℚ (u +ℚ v)
    → (c *ℚ (d *ℚ w +ℚ middle +ℚ e *ℚ w) /ℚ h) ≤ℚ (c *ℚ (d *ℚ u +ℚ middle +ℚ e *ℚ v) /ℚ h)
least_bracket c d e middle h u v w not_negative stiff positive even sums =
    at_most (not_negative *ₙ stiff *ₙ weaken (inverse_positive positive) *ₙ above sums)
    (from₁ (c *ℚ inverse h *ℚ (v -ℚ w)) even (by_ring (c ∷ d ∷ e ∷ middle ∷ inverse h ∷ u ∷ v ∷ w ∷ []) (search quotes depth 40 fits 9000) refl))

-- the two shares of a number of half waves have the product 1/b² of the width b
shares_of_waves : (a b n : ℤ) → pos 0 <ℤ a → pos 0 <ℤ b → pos 0 <ℤ n
    → fraction n a *ℚ fraction a ((b *ℤ b) *ℤ n) ≡ fraction (pos 1) b *ℚ fraction (pos 1) b
shares_of_waves a b n p q r =
    let bb = product_positive b b q q in
    let bbn = product_positive (b *ℤ b) n bb r in
    fraction-product n a a ((b *ℤ b) *ℤ n) p bbn
    ∙ (fraction-equal (n *ℤ a) (a *ℤ ((b *ℤ b) *ℤ n)) (pos 1 *ℤ pos 1) (b *ℤ b) (product_positive a ((b *ℤ b) *ℤ n) p bbn) bb).1
    (integers.solve 3 (λ a b n. (n ⊗ a) ⊗ (b ⊗ b) ≐ int (pos 1) ⊗ (a ⊗ ((b ⊗ b) ⊗ n))) refl a b n)
    ∙ sym (fraction-product (pos 1) b (pos 1) b q q)

-- the bracket's factor is not negative
circle_is_not_negative : whole (pos 0) ≤ℚ circle_square
unfolding whole fraction class_of ◌*ℚ◌ ◌/ℚ◌ inverse is_at_most on_one on_two of_two
circle_is_not_negative = record { le = refl }

-- the load of the formula where a half wave is as long as the plate is wide
abbrev pub load_at_the_least : List Item → PanelData → ℚ
load_at_the_least wall panel =
    let b = panel.width *ℤ panel.width in
    circle_square
    *ℚ (stiffness_11 wall *ℚ fraction (pos 1) b
    +ℚ two *ℚ (stiffness_12 wall +ℚ two *ℚ stiffness_66 wall) /ℚ whole b
    +ℚ stiffness_22 wall *ℚ fraction (pos 1) b)
    /ℚ whole (pos 1000000)

-- what that load allows, every number of half waves does
pub stands_in_every_wave : (wall : List Item) (panel : PanelData) (r : ℚ) → pos 0 <ℤ panel.length → pos 0 <ℤ panel.width → whole (pos 0) ≤ℚ stiffness_11 wall → stiffness_22 wall ≡ stiffness_11 wall
    → panel_load panel r ≤ℚ load_at_the_least wall panel → PanelAtLeast wall panel r
stands_in_every_wave wall panel r long wide stiff even least m some =
    let a = panel.length *ℤ panel.length in
    let b = panel.width *ℤ panel.width in
    let waves = pos (m * m) in
    let p : pos 0 <ℤ a = product_positive panel.length panel.length long long in
    let q : pos 0 <ℤ b = product_positive panel.width panel.width wide wide in
    let n : pos 0 <ℤ waves = product_positive (pos m) (pos m) (omega (arith, ints, some)) (omega (arith, ints, some)) in
    let middle = two *ℚ (stiffness_12 wall +ℚ two *ℚ stiffness_66 wall) /ℚ whole b in
    let along = fraction waves a in
    let across = fraction a ((b *ℤ b) *ℤ waves) in
    let even_share = fraction (pos 1) b in
    let sums = least_sum along across even_share (fraction_positive waves a n p) (shares_of_waves a b waves p q n) in
    transitive least (least_bracket circle_square (stiffness_11 wall) (stiffness_22 wall) middle (whole (pos 1000000)) along across even_share circle_is_not_negative stiff (positive_number 999999) even sums)
