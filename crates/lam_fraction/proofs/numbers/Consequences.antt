-- What follows from the laws of an enclosure alone: of its ends and what lies between them, of its middle, of the side of
-- a margin that it lies on, of its reach, and of a hull.
use Rattle.std.proofs.Common.{◌≡◌, refl, sym, ◌∙◌, ap, subst, subst₂, ℕ, ◌*◌, ◌^◌, ◌≤◌, ℤ, pos, negsuc, neg_ℤ, ◌+ℤ◌, ◌-ℤ◌, ◌*ℤ◌, ◌≤ℤ◌, ◌<ℤ◌, arith}
use Rattle.std.proofs.Math.Nat.{mul-le-mul_right, le_of_mul-le-mul_right}
use Rattle.std.proofs.lemmas.Int.{ints}
use Rattle.lam_fraction.specs.Fraction.{ℚ, whole, fraction, ◌-ℚ◌, ◌*ℚ◌, opposite, ◌≤ℚ◌, ◌<ℚ◌}
use Rattle.lam_fraction.specs.numbers.Encloses.{Encloses}
use Rattle.lam_fraction.specs.inside.Known.{Bounds, Known}
use Rattle.lam_fraction.specs.numbers.Numbers.{Numbers, unit, reach, width, Holds, Lawful, IsHull, SumRoom, MultipleRoom}
use Rattle.lam_fraction.specs.inside.WholeNumbers.{neg-times}
use Rattle.lam_fraction.specs.numbers.Rounding.{floor_over}
use Rattle.lam_fraction.specs.inside.Reaches.{Reaches}
use Rattle.lam_fraction.proofs.Expression.{int, ◌⊖◌, ◌⊗◌, minus}
use Rattle.lam_fraction.proofs.FractionBounds.{fraction-times}
use Rattle.lam_fraction.proofs.FractionPairs.{whole-le, whole-lt, fraction-opposite}
use Rattle.lam_fraction.proofs.FractionRing.{whole-product}
use Rattle.lam_fraction.proofs.Rationals.{solve, transitive, above, at_most, number, without_factor, without_factor_below, below_then_at_most, at_most_then_below, fraction_times, ◌*ₙ◌}
use Rattle.lam_fraction.proofs.Solver.{◌≐◌}
use Rattle.lam_fraction.proofs.WholeFractions.{whole-opposite}
use Rattle.lam_fraction.proofs.numbers.Rounded.{floor-at_most, floor-near}
use Rattle.lam_fraction.proofs.numbers.Steps.{width-is, low-within, high-within, one_unit}

-- ---- from parts of one to fractions, of u parts

module _ (u : ℕ) (some : 1 ≤ u) (m : ℤ) (x : ℚ) where
  turned : x *ℚ whole (pos u) ≡ whole (pos u) *ℚ x
  turned = solve 2 (λ x u. x ⊗ u ≐ u ⊗ x) refl x (whole (pos u))

  positive : whole (pos 0) <ℚ whole (pos u)
  positive = (whole-lt (pos 0) (pos u)).1 (omega (arith, ints))

  times : whole m ≡ whole (pos u) *ℚ fraction m (pos u)
  times = sym (fraction_times m (pos u) (omega (arith, ints)))

  pub parts_at_most : x *ℚ whole (pos u) ≤ℚ whole m → x ≤ℚ fraction m (pos u)
  parts_at_most h = without_factor (whole (pos u)) positive (subst₂ (λ s t. s ≤ℚ t) turned times h)

  pub parts_at_least : whole m ≤ℚ x *ℚ whole (pos u) → fraction m (pos u) ≤ℚ x
  parts_at_least h = without_factor (whole (pos u)) positive (subst₂ (λ s t. s ≤ℚ t) times turned h)

  pub parts_below : x *ℚ whole (pos u) <ℚ whole m → x <ℚ fraction m (pos u)
  parts_below h = without_factor_below (whole (pos u)) positive (subst₂ (λ s t. s <ℚ t) turned times h)

  pub parts_above : whole m <ℚ x *ℚ whole (pos u) → fraction m (pos u) <ℚ x
  parts_above h = without_factor_below (whole (pos u)) positive (subst₂ (λ s t. s <ℚ t) times turned h)

-- ---- of the ends

-- wider ends hold as much
pub encloses_more : {s : ℕ} {low high low' high' : ℤ} {x : ℚ} → Encloses s low high x → low' ≤ℤ low → high ≤ℤ high' → Encloses s low' high' x
encloses_more {s} {low} {high} {low'} {high'} h least most = record {
  from = transitive ((whole-le low' low).1 least) h.from;
  to = transitive h.to ((whole-le high high').1 most);
}

module _ {A : Type 0} {n : Numbers A} (laws : Lawful n) where
  end-units : (end : ℤ) → fraction end (pos (unit n)) *ℚ whole (pos (unit n)) ≡ whole end
  end-units end = fraction-times end (pos (unit n)) (omega (arith, ints, one_unit laws))

  -- an enclosure holds each whole number of units from its low end to its high end, so both ends too
  pub holds_units : {z : A} (end : ℤ) → n.low z ≤ℤ end → end ≤ℤ n.high z → Holds n z (fraction end (pos (unit n)))
  holds_units {z} end least most = record {
    encloses = record {
      from = subst (λ y. whole (n.low z) ≤ℚ y) (sym (end-units end)) ((whole-le (n.low z) end).1 least);
      to = subst (λ y. y ≤ℚ whole (n.high z)) (sym (end-units end)) ((whole-le end (n.high z)).1 most);
    };
  }

  units-order : (x y : ℚ) → x ≤ℚ y → x *ℚ whole (pos (unit n)) ≤ℚ y *ℚ whole (pos (unit n))
  unfolding ◌-ℚ◌
  units-order x y h = at_most (number (unit n) *ₙ above h) (solve 3 (λ x y u. y ⊗ u ⊖ x ⊗ u ≐ u ⊗ (y ⊖ x)) refl x y (whole (pos (unit n))))

  -- and all between two numbers that it holds
  pub holds_between : {z : A} {x y t : ℚ} → Holds n z x → Holds n z y → x ≤ℚ t → t ≤ℚ y → Holds n z t
  holds_between {x = x} {y} {t} h k least most = record {
    encloses = record { from = transitive h.encloses.from (units-order x t least); to = transitive (units-order t y most) k.encloses.to };
  }

  -- ---- what is held lies within half the width, rounded up, of the middle
  pub near_middle : {z : A} {x : ℚ} (half : ℕ) → width n z ≤ 2 * half → Holds n z x
      → Encloses n.scale (floor_over (n.low z +ℤ n.high z) 2 -ℤ pos half) (floor_over (n.low z +ℤ n.high z) 2 +ℤ pos half) x
  near_middle {z} half halves h =
      let w = width-is (n.low z) (n.high z) (laws.ordered z) in
      let from = floor-at_most (n.low z +ℤ n.high z) 2 (omega arith) in
      let to = floor-near (n.low z +ℤ n.high z) 2 (omega arith) in
      encloses_more h.encloses (omega (arith, ints, w, from, halves)) (omega (arith, ints, w, to, halves))

  -- ---- of a margin round 0, in units
  pub below_margin : {z : A} {x : ℚ} (margin : ℤ) → n.high z <ℤ neg_ℤ margin → Holds n z x → x <ℚ fraction (neg_ℤ margin) (pos (unit n))
  below_margin {z} {x} margin h k = parts_below (unit n) (one_unit laws) (neg_ℤ margin) x (at_most_then_below k.encloses.to ((whole-lt (n.high z) (neg_ℤ margin)).1 h))

  pub above_margin : {z : A} {x : ℚ} (margin : ℤ) → margin <ℤ n.low z → Holds n z x → fraction margin (pos (unit n)) <ℚ x
  above_margin {z} {x} margin h k = parts_above (unit n) (one_unit laws) margin x (below_then_at_most ((whole-lt margin (n.low z)).1 h) k.encloses.from)

  -- where neither is sure, what is held lies within the margin and the width
  pub near_margin : {z : A} {x : ℚ} (margin : ℤ) → neg_ℤ margin ≤ℤ n.high z → n.low z ≤ℤ margin → Holds n z x
      → Encloses n.scale (neg_ℤ (margin +ℤ pos (width n z))) (margin +ℤ pos (width n z)) x
  near_margin {z} margin least most h =
      let w = width-is (n.low z) (n.high z) (laws.ordered z) in
      encloses_more h.encloses (omega (arith, ints, w, least)) (omega (arith, ints, w, most))

  -- a number of at least 0 is held only where the high end is at least 0
  pub high_not_negative : {z : A} {x : ℚ} → Holds n z x → whole (pos 0) ≤ℚ x → pos 0 ≤ℤ n.high z
  high_not_negative {z} {x} h sign = (whole-le (pos 0) (n.high z)).0 (transitive (sign *ₙ number (unit n)) h.encloses.to)

  -- ---- of the reach: what is held is at most so large
  pub within_reach : {z : A} {x : ℚ} → Holds n z x → Encloses n.scale (neg_ℤ (pos (reach n z))) (pos (reach n z)) x
  within_reach {z} h = encloses_more h.encloses (low-within (n.low z) (n.high z)) (high-within (n.low z) (n.high z))

  pub reach_at_least : {z : A} {x : ℚ} → Holds n z x → opposite (fraction (pos (reach n z)) (pos (unit n))) ≤ℚ x
  reach_at_least {z} {x} h =
      subst (λ y. y ≤ℚ x) (sym (fraction-opposite (pos (reach n z)) (pos (unit n)) (omega (arith, ints, one_unit laws))))
      (parts_at_least (unit n) (one_unit laws) (neg_ℤ (pos (reach n z))) x (within_reach h).from)

  pub reach_at_most : {z : A} {x : ℚ} → Holds n z x → x ≤ℚ fraction (pos (reach n z)) (pos (unit n))
  reach_at_most {z} {x} h = parts_at_most (unit n) (one_unit laws) (pos (reach n z)) x (within_reach h).to

  -- ---- of a hull
  pub hull_holds : {z w r : A} {x y t : ℚ} → IsHull n z w r → Holds n z x → Holds n w y → x ≤ℚ t → t ≤ℚ y → Holds n r t
  hull_holds {x = x} {y} is h k least most = holds_between (is.first x h) (is.second y k) least most

  -- of a number and its opposite: all that is at most as large
  pub hull_of_opposite : {z w r : A} {x t : ℚ} → IsHull n z w r → Holds n z x → Holds n w (opposite x) → opposite x ≤ℚ t → t ≤ℚ x → Holds n r t
  hull_of_opposite {x = x} is h k least most = holds_between (is.second (opposite x) k) (is.first x h) least most

  -- .. where the opposite is computed as -1 times the number, or as its difference from 0
  pub opposite_multiple : {z : A} {x : ℚ} → MultipleRoom n z (negsuc 0) → Holds n z x → Holds n (n.calc.multiple z (negsuc 0)) (opposite x)
  opposite_multiple {z} {x} room h =
      subst (λ y. Holds n (n.calc.multiple z (negsuc 0)) y) (solve 1 (λ x. x ⊗ int (negsuc 0) ≐ minus x) refl x) ((laws.multiple z (negsuc 0) room).held x h)

  pub opposite_difference : {z zero : A} {x : ℚ} → SumRoom n zero z → Holds n zero (whole (pos 0)) → Holds n z x → Holds n (n.calc.difference zero z) (opposite x)
  unfolding ◌-ℚ◌
  opposite_difference {z} {zero} {x} room none h =
      subst (λ y. Holds n (n.calc.difference zero z) y) (solve 1 (λ x. int (pos 0) ⊖ x ≐ minus x) refl x) ((laws.difference zero z room).held (whole (pos 0)) x none h)

  -- ---- of a reach in parts of which 2^28 make one
  pub reaches_size : {e : ℕ} {z : A} {x : ℚ} → Reaches n e z → Holds n z x → (opposite (fraction (pos e) (pos (2 ^ 28))) ≤ℚ x) × (x ≤ℚ fraction (pos e) (pos (2 ^ 28)))
  unfolding ◌-ℚ◌
  reaches_size {e} {z} {x} r h =
      let u = whole (pos (unit n)) in
      let k = whole (pos (2 ^ 28)) in
      let inside = within_reach h in
      let least : neg_ℤ (pos (e * unit n)) ≤ℤ (neg_ℤ (pos (reach n z)) *ℤ pos (2 ^ 28)) = omega (arith, ints, r.far) in
      let most : (pos (reach n z) *ℤ pos (2 ^ 28)) ≤ℤ pos (e * unit n) = omega (arith, ints, r.far) in
      let product : pos (e * unit n) ≡ pos e *ℤ pos (unit n) = omega (arith, ints) in
      let below_zero : neg_ℤ (pos (e * unit n)) ≡ neg_ℤ (pos e) *ℤ pos (unit n) = ap neg_ℤ product ∙ sym (neg-times (pos e) (pos (unit n))) in
      let positive : whole (pos 0) <ℚ u = (whole-lt (pos 0) (pos (unit n))).1 (omega (arith, ints, one_unit laws)) in
      let to_parts : (x *ℚ u) *ℚ k ≡ u *ℚ (x *ℚ k) = solve 3 (λ x u k. (x ⊗ u) ⊗ k ≐ u ⊗ (x ⊗ k)) refl x u k in
      let from : u *ℚ whole (neg_ℤ (pos e)) ≤ℚ u *ℚ (x *ℚ k) =
      subst₂ (λ s t. s ≤ℚ t) (ap whole below_zero ∙ whole-product (neg_ℤ (pos e)) (pos (unit n)) ∙ solve 2 (λ e u. e ⊗ u ≐ u ⊗ e) refl (whole (neg_ℤ (pos e))) u) to_parts
      (transitive ((whole-le _ _).1 least) (subst (λ s. s ≤ℚ (x *ℚ u) *ℚ k) (sym (whole-product (neg_ℤ (pos (reach n z))) (pos (2 ^ 28)))) (by_parts inside.from))) in
      let to : u *ℚ (x *ℚ k) ≤ℚ u *ℚ whole (pos e) =
      subst₂ (λ s t. s ≤ℚ t) to_parts (ap whole product ∙ whole-product (pos e) (pos (unit n)) ∙ solve 2 (λ e u. e ⊗ u ≐ u ⊗ e) refl (whole (pos e)) u)
      (transitive (subst (λ s. (x *ℚ u) *ℚ k ≤ℚ s) (sym (whole-product (pos (reach n z)) (pos (2 ^ 28)))) (by_parts inside.to)) ((whole-le _ _).1 most)) in (
        subst (λ y. y ≤ℚ x) (sym (fraction-opposite (pos e) (pos (2 ^ 28)) (omega (arith, ints)))) (parts_at_least (2 ^ 28) (omega arith) (neg_ℤ (pos e)) x (without_factor u positive from)),
        parts_at_most (2 ^ 28) (omega arith) (pos e) x (without_factor u positive to),
      )
    where
      by_parts : {s t : ℚ} → s ≤ℚ t → s *ℚ whole (pos (2 ^ 28)) ≤ℚ t *ℚ whole (pos (2 ^ 28))
      by_parts {s} {t} l = at_most (number (2 ^ 28) *ₙ above l) (solve 3 (λ s t k. t ⊗ k ⊖ s ⊗ k ≐ k ⊗ (t ⊖ s)) refl s t (whole (pos (2 ^ 28))))

  -- ---- of what is known: its size as a fraction, and its width in whole slops
  pub known_at_least : {d : ℕ} {b : Bounds} {z : A} {x : ℚ} → 1 ≤ d → Known n d b z x → opposite (fraction (pos b.size) (pos d)) ≤ℚ x
  known_at_least {d} {b} {z} {x} some h =
      subst (λ y. y ≤ℚ x) (sym (fraction-opposite (pos b.size) (pos d) (omega (arith, ints))))
      (parts_at_least d some (neg_ℤ (pos b.size)) x (subst₂ (λ s t. s ≤ℚ t) (sym (whole-opposite (pos b.size))) (solve 2 (λ x d. d ⊗ x ≐ x ⊗ d) refl x (whole (pos d))) h.least))

  pub known_at_most : {d : ℕ} {b : Bounds} {z : A} {x : ℚ} → 1 ≤ d → Known n d b z x → x ≤ℚ fraction (pos b.size) (pos d)
  known_at_most {d} {b} {z} {x} some h =
      parts_at_most d some (pos b.size) x (subst (λ s. s ≤ℚ whole (pos b.size)) (solve 2 (λ x d. d ⊗ x ≐ x ⊗ d) refl x (whole (pos d))) h.most)

  pub known_narrow : {d : ℕ} {b : Bounds} {z : A} {x : ℚ} (slops : ℕ) → 1 ≤ d → Known n d b z x → b.wide ≤ slops * d → width n z ≤ slops * n.slop
  known_narrow {d} {b} slops some h wide =
      let most : b.wide * n.slop ≤ (slops * d) * n.slop = mul-le-mul_right n.slop wide in
      le_of_mul-le-mul_right {k = d} (omega (arith, h.narrow, most)) (omega (arith, some))
