-- One side of an item: its weighted stresses inside the surface are at most what is computed, and come near it.
use Rattle.std.proofs.Common.{◌≡◌, refl, sym, ◌∙◌, ap, subst, subst₂, ◌⊎◌, inl, inr, ℕ, ◌+◌, ◌-◌, ◌*◌, ◌^◌, ◌≤◌, ℤ, pos, ◌+ℤ◌, ◌*ℤ◌, ◌≤ℤ◌, ◌<ℤ◌, unsigned_abs, arith}
use Rattle.std.proofs.lemmas.Int.{ints}
use Rattle.lam_fraction.specs.Fraction.{ℚ, whole, ◌+ℚ◌, ◌-ℚ◌, ◌*ℚ◌, inverse, ◌≤ℚ◌, ◌<ℚ◌}
use Rattle.lam_fraction.specs.inside.Known.{Known}
use Rattle.lam_fraction.specs.numbers.Rounding.{root_floor}
use Rattle.lam_fraction.specs.numbers.Arithmetic.{exact}
use Rattle.lam_fraction.specs.numbers.Numbers.{Numbers, Lawful, width}
use Rattle.lam_fraction.proofs.Expression.{int, ◌⊕◌, ◌⊖◌, ◌⊗◌}
use Rattle.lam_fraction.proofs.FractionBounds.{times-inverse}
use Rattle.lam_fraction.proofs.FractionPairs.{whole-le, whole-lt}
use Rattle.lam_fraction.proofs.FractionRing.{whole-sum, whole-product}
use Rattle.lam_fraction.proofs.Rationals.{solve, with_factor, above, at_most, at_most_over, below_over, weaken, number, positive_number, inverse_positive, transitive, ◌*ₙ◌, ◌*ₚ◌}
use Rattle.lam_fraction.proofs.Solver.{◌≐◌}
use Rattle.lam_fraction.proofs.WholeFractions.{whole-difference, natural-product}
use Rattle.lam_fraction.proofs.numbers.Consequences.{high_not_negative}
use Rattle.lam_fraction.proofs.numbers.Steps.{width-is}
use Rattle.lam_number.specs.declared.fix.Fix.{Fix}
use Rattle.lam_number.specs.inside.FixNumbers.{fix_numbers}
use Rattle.lam_number.specs.inside.FixLaws.{fix_lawful}
use Rattle.lam_stock.specs.declared.item.Lamina.{Lamina}
use Rattle.lam_stock.specs.Limits.{KeepsStrengths}
use Rattle.lam_stock.specs.PlyLaw.{OnAxis}
use Rattle.lam_support.specs.declared.slopes.PlyWeight.{PlyWeight}
use Rattle.lam_support.specs.declared.slopes.Slopes.{Slopes}
use Rattle.lam_support.specs.inside.Formulas as by
use Rattle.lam_support.specs.inside.Known.{AreSmall}
use Rattle.lam_support.specs.Carried.{IsInside}
use Rattle.lam_support.proofs.Ellipse.{Triple, dot, extent, spread, from_middle, none_beyond, one_reaches, spread_not_negative, extent_not_negative}
use Rattle.lam_support.proofs.Rounds.{RootOf, root_of, shortened, large_enough, slope_at_most, small_enough, slope_near}
use Rattle.lam_support.proofs.SurfaceLaw.{ellipsoid, is_ellipsoid, rest_link, form_link, square_link, within_surface, inside_surface}
use Rattle.lam_support.proofs.Tips.{Tip, tip}
use Rattle.lam_support.proofs.Weighted.{on_axis, counted, counted_is, stress, stress_is, slopes_value}
use Rattle.lam_support.proofs.Widths.{coarsely, known_square, known_lean}

abbrev pub fixed : Numbers (Fix 60)
fixed = fix_numbers 60

pub lawful : Lawful fixed
lawful = fix_lawful 60 (omega arith, omega arith)

-- the units to one
abbrev pub units : ℚ
units = whole (pos (2 ^ 60))

units-positive : whole (pos 0) <ℚ units
units-positive = (whole-lt (pos 0) (pos (2 ^ 60))).1 (omega (arith, ints))

-- g/16 of a lamina, in units
abbrev pub rest_units : Lamina → ℚ
rest_units l = (by.surface exact l).rest *ℚ units

-- what is known of the reach e of a side with the weights v, the steepest of which is m
pub record Side (l : Lamina) (v : PlyWeight) (m : ℕ) (e : ℤ) : Type 0 where
  pub most : (t : OnAxis) → IsInside l t → rest_units l *ℚ (whole (pos 1000) *ℚ on_axis v t) ≤ℚ whole (pos 2) *ℚ (whole (pos m) *ℚ whole e)
  pub at : OnAxis
  pub inside : IsInside l at
  pub near : whole (pos 2) *ℚ (whole (pos m) *ℚ whole e) ≤ℚ rest_units l *ℚ (whole (pos 1000) *ℚ on_axis v at) +ℚ whole (pos m) *ℚ whole (pos (2 ^ 39))
  pub tip : Tip l v m

module _ {l : Lamina} (h : KeepsStrengths l) where
  pub rest_positive : whole (pos 0) <ℚ rest_units l
  unfolding ◌-ℚ◌
  rest_positive =
      below_over {k = whole (pos 16)} (positive_number 15) ((is_ellipsoid h).rest) (solve 1 (λ r. int (pos 16) ⊗ (r ⊖ int (pos 0)) ≐ int (pos 16) ⊗ r) refl (by.surface exact l).rest ∙ rest_link h) *ₚ units-positive

  -- ---- of the steepest m, and slopes that are at most it

  module _ (v : PlyWeight) (m : ℕ) (some : 1 ≤ m) (few : m ≤ 2 ^ 62) (small : AreSmall m (by.at_strengths l v)) where
    abbrev slopes : Slopes ℚ
    slopes = by.slopes exact (by.at_strengths l v) (pos m)

    abbrev aim : Triple
    aim = record { along = slopes.along; across = slopes.across; shear = slopes.shear }

    abbrev squared : Fix 60
    squared = by.square fixed.calc (by.surface fixed.calc l) (by.slopes fixed.calc (by.at_strengths l v) (pos m))

    abbrev leaning : Fix 60
    leaning = by.lean fixed.calc (by.surface fixed.calc l) (by.slopes fixed.calc (by.at_strengths l v) (pos m))

    abbrev square-exact : ℚ
    square-exact = by.square exact (by.surface exact l) slopes

    abbrev lean-exact : ℚ
    lean-exact = by.lean exact (by.surface exact l) slopes

    known-s : Known fixed 16 coarsely squared square-exact
    known-s = known_square lawful h some few small

    known-l : Known fixed 16 coarsely leaning lean-exact
    known-l = known_lean lawful h some few small

    square-sign : whole (pos 0) ≤ℚ square-exact
    unfolding ◌-ℚ◌
    square-sign =
        at_most_over {k = whole (pos 64) *ℚ whole (pos 64)} (positive_number 63 *ₚ positive_number 63)
        (extent_not_negative (ellipsoid l) (is_ellipsoid h) *ₙ spread_not_negative (ellipsoid l) (is_ellipsoid h) aim)
        (solve 2 (λ k s. k ⊗ k ⊗ (s ⊖ int (pos 0)) ≐ k ⊗ k ⊗ s) refl (whole (pos 64)) square-exact ∙ square_link h slopes)

    pub square_sign : pos 0 ≤ℤ fixed.high squared
    square_sign = high_not_negative lawful known-s.held square-sign

    positive-m : pos 0 <ℤ pos m
    positive-m = omega (arith, ints, some)

    -- from the middle of the ellipsoid to the code's numbers
    middle-link : (y : Triple) → from_middle (ellipsoid l) aim y ≡ whole (pos 2) *ℚ (whole (pos 16) *ℚ (by.surface exact l).rest) *ℚ dot aim y +ℚ whole (pos 64) *ℚ lean-exact
    middle-link y = λ i. whole (pos 2) *ℚ sym (rest_link h) i *ℚ dot aim y +ℚ sym (form_link h slopes.along slopes.across (ellipsoid l).shift_along (ellipsoid l).shift_across) i

    abbrev whole-root : ℕ
    whole-root = root_floor (unsigned_abs (fixed.high squared) * 2 ^ 60)

    root : RootOf (fixed.high (fixed.root squared)) (fixed.high squared) whole-root
    root = root_of squared square_sign

    abbrev reach : ℤ
    reach = by.reach fixed (by.surface fixed.calc l) (by.slopes fixed.calc (by.at_strengths l v) (pos m))

    reach-whole : whole reach ≡ whole (fixed.high (fixed.root squared)) -ℚ whole (fixed.low leaning)
    reach-whole = whole-difference (fixed.high (fixed.root squared)) (fixed.low leaning)

    high-product : whole (fixed.high squared) *ℚ units ≤ℚ whole (fixed.high (fixed.root squared)) *ℚ whole (fixed.high (fixed.root squared))
    high-product =
        let r = fixed.high (fixed.root squared) in
        subst₂ (λ x y. x ≤ℚ y) (whole-product (fixed.high squared) (pos (2 ^ 60))) (whole-product r r) ((whole-le _ _).1 (squares r whole-root root.is root.above))
      where
        squares : (r : ℤ) (k : ℕ) → r ≡ pos (k + 1) → (fixed.high squared *ℤ pos (2 ^ 60)) ≤ℤ pos ((k + 1) * (k + 1)) → (fixed.high squared *ℤ pos (2 ^ 60)) ≤ℤ (r *ℤ r)
        squares r k e p = subst (λ x. (fixed.high squared *ℤ pos (2 ^ 60)) ≤ℤ (x *ℤ x)) (sym e) p

    root-not-negative : whole (pos 0) ≤ℚ whole (fixed.high (fixed.root squared))
    root-not-negative = subst (λ x. whole (pos 0) ≤ℚ whole x) (sym root.is) (number _)

    most : (t : OnAxis) → IsInside l t → rest_units l *ℚ (whole (pos 1000) *ℚ on_axis v t) ≤ℚ whole (pos 2) *ℚ (whole (pos m) *ℚ whole reach)
    unfolding ◌-ℚ◌
    most t inside =
        let y = counted h t in
        let i = inverse units in
        let one = times-inverse units-positive in
        let high = whole (fixed.high (fixed.root squared)) in
        let low = whole (fixed.low leaning) in
        let e = whole (pos 64) *ℚ (high *ℚ i) in
        let sign : whole (pos 0) ≤ℚ e = number 64 *ₙ (root-not-negative *ₙ weaken (inverse_positive units-positive)) in
        let large : extent (ellipsoid l) *ℚ spread (ellipsoid l) aim ≤ℚ e *ℚ e =
        subst (λ x. x ≤ℚ e *ℚ e) (square_link h slopes) (large_enough square-exact (whole (fixed.high squared)) high units i units-positive one known-s.held.encloses.to high-product) in
        let beyond = none_beyond (ellipsoid l) (is_ellipsoid h) aim y e (within_surface h (counted_is h t) inside) sign large in
        let bound : rest_units l *ℚ dot aim y ≤ℚ whole (pos 2) *ℚ (high -ℚ low) =
        slope_at_most (by.surface exact l).rest (dot aim y) lean-exact units i high low one units-positive known-l.held.encloses.from (subst (λ x. x ≤ℚ e) (middle-link y) beyond) in
        subst₂ (λ a b. a ≤ℚ b)
        (solve 3 (λ m g d. m ⊗ (g ⊗ d) ≐ g ⊗ (m ⊗ d)) refl (whole (pos m)) (rest_units l) (dot aim y) ∙ ap (λ x. rest_units l *ℚ x) (slopes_value h v (pos m) positive-m t y (counted_is h t)))
        (solve 2 (λ m e. m ⊗ (int (pos 2) ⊗ e) ≐ int (pos 2) ⊗ (m ⊗ e)) refl (whole (pos m)) (high -ℚ low) ∙ ap (λ x. whole (pos 2) *ℚ (whole (pos m) *ℚ x)) (sym reach-whole))
        (with_factor (whole (pos m)) (number m) bound)

    -- ---- and a stress that comes near

    width-of : (w : ℕ) → w * 16 ≤ 16000 * 2 → w ≤ 2000
    width-of w h = omega (arith, h)

    abbrev short : ℕ
    short = whole-root - 2 ^ 36

    shorter : (k r w : ℕ) (z low : ℤ) → k * k + 2 ^ 72 ≤ r * r → pos (r * r) ≤ℤ (z *ℤ pos (2 ^ 60)) → z ≡ low +ℤ pos w → w ≤ 2000 → pos (k * k) ≤ℤ (low *ℤ pos (2 ^ 60))
    shorter k r w z low p q e f = omega (arith, ints, p, q, e, f)

    short-square : ((short * short + 2 ^ 72 ≤ whole-root * whole-root) ⊎ (short ≡ 0)) → whole (pos short) *ℚ whole (pos short) ≤ℚ square-exact *ℚ units *ℚ units
    unfolding ◌-ℚ◌
    short-square (inl p) =
        let wide = width-of (width fixed squared) known-s.narrow in
        let ends = width-is (fixed.low squared) (fixed.high squared) (lawful.ordered squared) in
        let below : pos (short * short) ≤ℤ (fixed.low squared *ℤ pos (2 ^ 60)) = shorter short whole-root (width fixed squared) (fixed.high squared) (fixed.low squared) p root.below ends wide in
        transitive
        (subst₂ (λ x y. x ≤ℚ y) (natural-product short short) (whole-product (fixed.low squared) (pos (2 ^ 60))) ((whole-le _ _).1 below))
        (at_most (above known-s.held.encloses.from *ₙ weaken units-positive) (solve 3 (λ x l u. x ⊗ u ⊗ u ⊖ l ⊗ u ≐ (x ⊗ u ⊖ l) ⊗ u) refl square-exact (whole (fixed.low squared)) units))
    short-square (inr e) =
        subst (λ x. whole (pos x) *ℚ whole (pos x) ≤ℚ square-exact *ℚ units *ℚ units) (sym e)
        (at_most (square-sign *ₙ weaken units-positive *ₙ weaken units-positive) (solve 2 (λ x u. x ⊗ u ⊗ u ⊖ int (pos 0) ⊗ int (pos 0) ≐ x ⊗ u ⊗ u) refl square-exact units))

    abbrev left-over : ℚ
    left-over = whole (pos (2 ^ 36 + 2001))

    root-short : (r : ℕ) (z : ℤ) → z ≡ pos (r + 1) → z ≤ℤ (pos (r - 2 ^ 36) +ℤ pos (2 ^ 36 + 2001))
    root-short r z e = omega (arith, ints, e)

    lean-short : (w : ℕ) (z low : ℤ) → z ≡ low +ℤ pos w → w ≤ 2000 → z ≤ℤ (low +ℤ pos (2 ^ 36 + 2001))
    lean-short w z low e p = omega (arith, ints, e, p)

    high-near : whole (fixed.high (fixed.root squared)) ≤ℚ whole (pos short) +ℚ left-over
    high-near =
        subst (λ x. whole (fixed.high (fixed.root squared)) ≤ℚ x) (whole-sum (pos short) (pos (2 ^ 36 + 2001)))
        ((whole-le _ _).1 (root-short whole-root (fixed.high (fixed.root squared)) root.is))

    lean-near : lean-exact *ℚ units ≤ℚ whole (fixed.low leaning) +ℚ left-over
    lean-near =
        let wide = width-of (width fixed leaning) known-l.narrow in
        let ends = width-is (fixed.low leaning) (fixed.high leaning) (lawful.ordered leaning) in
        transitive known-l.held.encloses.to
        (subst (λ x. whole (fixed.high leaning) ≤ℚ x) (whole-sum (fixed.low leaning) (pos (2 ^ 36 + 2001)))
        ((whole-le _ _).1 (lean-short (width fixed leaning) (fixed.high leaning) (fixed.low leaning) ends wide)))

    abbrev Near : OnAxis → Type 0
    Near t = whole (pos 2) *ℚ (whole (pos m) *ℚ whole reach) ≤ℚ rest_units l *ℚ (whole (pos 1000) *ℚ on_axis v t) +ℚ whole (pos m) *ℚ whole (pos (2 ^ 39))

    near-by : (y : Triple) → from_middle (ellipsoid l) aim y ≡ whole (pos 64) *ℚ (whole (pos short) *ℚ inverse units) → Near (stress h y)
    unfolding ◌-ℚ◌
    near-by y reached =
        let t = stress h y in
        let high = whole (fixed.high (fixed.root squared)) in
        let low = whole (fixed.low leaning) in
        let bound : whole (pos 2) *ℚ (high -ℚ low) ≤ℚ rest_units l *ℚ dot aim y +ℚ whole (pos 4) *ℚ left-over =
        slope_near (by.surface exact l).rest (dot aim y) lean-exact units (inverse units) (whole (pos short)) high low left-over (times-inverse units-positive) high-near lean-near (sym (middle-link y) ∙ reached) in
        let slack : whole (pos 4) *ℚ left-over ≤ℚ whole (pos (2 ^ 39)) =
        subst (λ x. x ≤ℚ whole (pos (2 ^ 39))) (whole-product (pos 4) (pos (2 ^ 36 + 2001))) ((whole-le _ _).1 (omega (arith, ints))) in
        subst₂ (λ a b. a ≤ℚ b)
        (solve 2 (λ m e. m ⊗ (int (pos 2) ⊗ e) ≐ int (pos 2) ⊗ (m ⊗ e)) refl (whole (pos m)) (high -ℚ low) ∙ ap (λ x. whole (pos 2) *ℚ (whole (pos m) *ℚ x)) (sym reach-whole))
        (solve 4 (λ m g d w. m ⊗ (g ⊗ d ⊕ w) ≐ g ⊗ (m ⊗ d) ⊕ m ⊗ w) refl (whole (pos m)) (rest_units l) (dot aim y) (whole (pos (2 ^ 39)))
        ∙ ap (λ x. rest_units l *ℚ x +ℚ whole (pos m) *ℚ whole (pos (2 ^ 39))) (slopes_value h v (pos m) positive-m t y (stress_is h y)))
        (with_factor (whole (pos m)) (number m) (transitive bound (at_most (above slack) (solve 3 (λ g w s. (g ⊕ s) ⊖ (g ⊕ w) ≐ s ⊖ w) refl (rest_units l *ℚ dot aim y) (whole (pos 4) *ℚ left-over) (whole (pos (2 ^ 39)))))))

    near-stress : (t : OnAxis) × IsInside l t × Near t
    near-stress =
        let i = inverse units in
        let k = whole (pos 64) *ℚ (whole (pos short) *ℚ i) in
        let small : k *ℚ k ≤ℚ extent (ellipsoid l) *ℚ spread (ellipsoid l) aim =
        subst (λ x. k *ℚ k ≤ℚ x) (square_link h slopes) (small_enough square-exact (whole (pos short)) units i units-positive (times-inverse units-positive) (short-square (shortened whole-root))) in
        let found = one_reaches (ellipsoid l) (is_ellipsoid h) aim k small in
        (stress h found.0, inside_surface h (stress_is h found.0) found.1, near-by found.0 found.2)

    pub side : m ≡ by.greatest (by.at_strengths l v) → Side l v m reach
    side e = record {
      most = most;
      at = near-stress.0;
      inside = near-stress.1;
      near = near-stress.2;
      tip = subst (Tip l v) (sym e) (tip h v);
    }
