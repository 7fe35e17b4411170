-- What a load leaves at a guess in whole units, from whole ends of the load and of the entries of a row, in units squared.
use Rattle.std.proofs.Common.{◌≡◌, refl, sym, ◌∙◌, ap, ap₂, subst, ℤ, pos, neg_ℤ, ◌+ℤ◌, ◌-ℤ◌, ◌*ℤ◌, ◌≤ℤ◌, ◌<ℤ◌, arith}
use Rattle.std.proofs.lemmas.Int.{ints, clamps}
use Rattle.std.specs.Int.{int_min, int_max}
use Rattle.lam_fraction.specs.Fraction.{ℚ, whole, fraction, ◌+ℚ◌, ◌-ℚ◌, ◌*ℚ◌, opposite, ◌≤ℚ◌, ◌<ℚ◌}
use Rattle.lam_fraction.proofs.Expression.{int, ◌⊕◌, ◌⊖◌, ◌⊗◌, minus}
use Rattle.lam_fraction.proofs.Solver.{◌≐◌}
use Rattle.lam_fraction.proofs.FractionBounds.{fraction-times, product_of_intervals, whole_positive}
use Rattle.lam_fraction.proofs.FractionRing.{whole-sum, whole-product}
use Rattle.lam_fraction.proofs.Rationals.{solve, from₁, from₂, above, at_most, at_most_over, reflexive, transitive, weaken, ◌+ₙ◌, ◌*ₙ◌, ◌*ₚ◌}
use Rattle.lam_fraction.proofs.WholeFractions.{whole-difference, whole-opposite, whole_at_most}
use Rattle.lam_solve.specs.StrainBounds.{IsNear}
use Rattle.lam_solve.proofs.energy.Sizes.{near-residual}
use Rattle.lam_solve.proofs.energy.Units.{Between}

-- an entry between whole ends, and the component of the guess that it multiplies
pub record Share (unit : ℤ) : Type 0 where
  pub entry : ℚ
  pub low : ℤ
  pub high : ℤ
  pub component : ℤ
  pub between : Between unit low high entry

-- the least and the greatest product of the ends with the component
abbrev pub least : {unit : ℤ} → Share unit → ℤ
least p = int_min (p.low *ℤ p.component) (p.high *ℤ p.component)

abbrev pub greatest : {unit : ℤ} → Share unit → ℤ
greatest p = int_max (p.low *ℤ p.component) (p.high *ℤ p.component)

abbrev pub sum_of : {unit : ℤ} → (Share unit → ℤ) → (a b c d e f : Share unit) → ℤ
sum_of end a b c d e f = end a +ℤ end b +ℤ end c +ℤ end d +ℤ end e +ℤ end f

-- the sum along a row at the guess: by the mid-plane strains, and by the bending strains
abbrev pub row_at : (unit : ℤ) → (a b c d e f : Share unit) → ℚ
row_at unit a b c d e f =
    (a.entry *ℚ fraction a.component unit +ℚ b.entry *ℚ fraction b.component unit +ℚ c.entry *ℚ fraction c.component unit)
    +ℚ (d.entry *ℚ fraction d.component unit +ℚ e.entry *ℚ fraction e.component unit +ℚ f.entry *ℚ fraction f.component unit)

-- two ends in units squared are at most so many units in size
pub record EndsWithin (unit residual low high : ℤ) : Type 0 where
  pub from : neg_ℤ (residual *ℤ unit) ≤ℤ low
  pub to : high ≤ℤ (residual *ℤ unit)

-- an end of what a load with this end leaves
abbrev pub left_end : (unit end : ℤ) → (Share unit → ℤ) → (a b c d e f : Share unit) → ℤ
left_end unit end of a b c d e f = end *ℤ unit -ℤ sum_of of a b c d e f

sum-whole : (a b c d e f : ℤ) → whole (a +ℤ b +ℤ c +ℤ d +ℤ e +ℤ f) ≡ whole a +ℚ whole b +ℚ whole c +ℚ whole d +ℚ whole e +ℚ whole f
sum-whole a b c d e f =
    whole-sum (a +ℤ b +ℤ c +ℤ d +ℤ e) f ∙ ap (λ s. s +ℚ whole f) (whole-sum (a +ℤ b +ℤ c +ℤ d) e ∙ ap (λ s. s +ℚ whole e) (whole-sum (a +ℤ b +ℤ c) d
    ∙ ap (λ s. s +ℚ whole d) (whole-sum (a +ℤ b) c ∙ ap (λ s. s +ℚ whole c) (whole-sum a b))))

module _ (unit : ℤ) (one : pos 0 <ℤ unit) where
  abbrev squared : ℚ
  squared = whole unit *ℚ whole unit

  squared-above : whole (pos 0) <ℚ squared
  squared-above = whole_positive one *ₚ whole_positive one

  -- the product of an entry with its component, in units squared
  abbrev part : Share unit → ℚ
  part p = p.entry *ℚ fraction p.component unit *ℚ squared

  share-units : (p : Share unit) → (whole (least p) ≤ℚ part p) × (part p ≤ℚ whole (greatest p))
  unfolding ◌-ℚ◌
  share-units p =
      let by_low : whole p.low *ℚ whole p.component ≡ whole (p.low *ℤ p.component) = sym (whole-product p.low p.component) in
      let by_high : whole p.high *ℚ whole p.component ≡ whole (p.high *ℤ p.component) = sym (whole-product p.high p.component) in
      let low_low = subst (λ s. whole (least p) ≤ℚ s) (sym by_low) (whole_at_most (omega (arith, ints, clamps))) in
      let low_high = subst (λ s. whole (least p) ≤ℚ s) (sym by_high) (whole_at_most (omega (arith, ints, clamps))) in
      let high_low = subst (λ s. s ≤ℚ whole (greatest p)) (sym by_low) (whole_at_most (omega (arith, ints, clamps))) in
      let high_high = subst (λ s. s ≤ℚ whole (greatest p)) (sym by_high) (whole_at_most (omega (arith, ints, clamps))) in
      let at = product_of_intervals (whole (least p)) (whole (greatest p)) (whole p.low) (whole p.high) (whole p.component) (whole p.component) (p.entry *ℚ whole unit) (whole p.component)
      p.between.0 p.between.1 (reflexive (whole p.component)) (reflexive (whole p.component)) (low_low, low_low, low_high, low_high) (high_low, high_low, high_high, high_high) in
      let same : whole p.component *ℚ (p.entry *ℚ whole unit) ≡ part p =
      from₁ (opposite (p.entry *ℚ whole unit)) (fraction-times p.component unit one)
      (solve 4 (λ c a u f. c ⊗ (a ⊗ u) ≐ a ⊗ f ⊗ (u ⊗ u) ⊕ minus (a ⊗ u) ⊗ (f ⊗ u ⊖ c)) refl (whole p.component) p.entry (whole unit) (fraction p.component unit)) in
      (subst (λ s. whole (least p) ≤ℚ s) same at.0, subst (λ s. s ≤ℚ whole (greatest p)) same at.1)

  module _ (load : ℚ) (low high : ℤ) (held : Between unit low high load) (a b c d e f : Share unit) where
    -- what the load leaves
    abbrev left : ℚ
    left = load -ℚ row_at unit a b c d e f

    image : (end : ℤ) (of : Share unit → ℤ) → whole (left_end unit end of a b c d e f)
        ≡ whole end *ℚ whole unit -ℚ (whole (of a) +ℚ whole (of b) +ℚ whole (of c) +ℚ whole (of d) +ℚ whole (of e) +ℚ whole (of f))
    image end of =
        whole-difference (end *ℤ unit) (sum_of of a b c d e f)
        ∙ ap₂ ◌-ℚ◌ (whole-product end unit) (sum-whole (of a) (of b) (of c) (of d) (of e) (of f))

    left-from : whole (left_end unit low greatest a b c d e f) ≤ℚ left *ℚ squared
    unfolding ◌-ℚ◌
    left-from = subst (λ s. s ≤ℚ left *ℚ squared) (sym (image low greatest)) (at_most
        (above held.0 *ₙ weaken (whole_positive one)
        +ₙ (above (share-units a).1 +ₙ above (share-units b).1 +ₙ above (share-units c).1 +ₙ above (share-units d).1 +ₙ above (share-units e).1 +ₙ above (share-units f).1))
        (solve 15 (λ l n u p q r s t v i j k x y z.
        (l ⊖ ((p ⊕ q ⊕ r) ⊕ (s ⊕ t ⊕ v))) ⊗ (u ⊗ u) ⊖ (n ⊗ u ⊖ (i ⊕ j ⊕ k ⊕ x ⊕ y ⊕ z))
        ≐ (l ⊗ u ⊖ n) ⊗ u ⊕ ((i ⊖ p ⊗ (u ⊗ u)) ⊕ (j ⊖ q ⊗ (u ⊗ u)) ⊕ (k ⊖ r ⊗ (u ⊗ u)) ⊕ (x ⊖ s ⊗ (u ⊗ u)) ⊕ (y ⊖ t ⊗ (u ⊗ u)) ⊕ (z ⊖ v ⊗ (u ⊗ u)))) refl
        load (whole low) (whole unit)
        (a.entry *ℚ fraction a.component unit) (b.entry *ℚ fraction b.component unit) (c.entry *ℚ fraction c.component unit)
        (d.entry *ℚ fraction d.component unit) (e.entry *ℚ fraction e.component unit) (f.entry *ℚ fraction f.component unit)
        (whole (greatest a)) (whole (greatest b)) (whole (greatest c)) (whole (greatest d)) (whole (greatest e)) (whole (greatest f))))

    left-to : left *ℚ squared ≤ℚ whole (left_end unit high least a b c d e f)
    unfolding ◌-ℚ◌
    left-to = subst (λ s. left *ℚ squared ≤ℚ s) (sym (image high least)) (at_most
        (above held.1 *ₙ weaken (whole_positive one)
        +ₙ (above (share-units a).0 +ₙ above (share-units b).0 +ₙ above (share-units c).0 +ₙ above (share-units d).0 +ₙ above (share-units e).0 +ₙ above (share-units f).0))
        (solve 15 (λ l n u p q r s t v i j k x y z.
        (n ⊗ u ⊖ (i ⊕ j ⊕ k ⊕ x ⊕ y ⊕ z)) ⊖ (l ⊖ ((p ⊕ q ⊕ r) ⊕ (s ⊕ t ⊕ v))) ⊗ (u ⊗ u)
        ≐ (n ⊖ l ⊗ u) ⊗ u ⊕ ((p ⊗ (u ⊗ u) ⊖ i) ⊕ (q ⊗ (u ⊗ u) ⊖ j) ⊕ (r ⊗ (u ⊗ u) ⊖ k) ⊕ (s ⊗ (u ⊗ u) ⊖ x) ⊕ (t ⊗ (u ⊗ u) ⊖ y) ⊕ (v ⊗ (u ⊗ u) ⊖ z))) refl
        load (whole high) (whole unit)
        (a.entry *ℚ fraction a.component unit) (b.entry *ℚ fraction b.component unit) (c.entry *ℚ fraction c.component unit)
        (d.entry *ℚ fraction d.component unit) (e.entry *ℚ fraction e.component unit) (f.entry *ℚ fraction f.component unit)
        (whole (least a)) (whole (least b)) (whole (least c)) (whole (least d)) (whole (least e)) (whole (least f))))

    -- ends that are at most so many units, in units squared
    pub row-near : (residual : ℤ) → EndsWithin unit residual (left_end unit low greatest a b c d e f) (left_end unit high least a b c d e f)
        → IsNear (fraction residual unit) load (row_at unit a b c d e f)
    unfolding ◌-ℚ◌
    row-near residual w =
        let size = whole-product residual unit in
        let over = fraction-times residual unit one in
        near-residual (record {
          from = at_most_over squared-above (above (transitive (whole_at_most w.from) left-from))
              (from₂ (whole (pos 1)) (whole-opposite (residual *ℤ unit) ∙ ap opposite size) (whole unit) over
              (solve 5 (λ x u f r w. u ⊗ u ⊗ (x ⊖ minus f) ≐ (x ⊗ (u ⊗ u) ⊖ w) ⊕ int (pos 1) ⊗ (w ⊖ minus (r ⊗ u)) ⊕ u ⊗ (f ⊗ u ⊖ r)) refl
              left (whole unit) (fraction residual unit) (whole residual) (whole (neg_ℤ (residual *ℤ unit)))));
          to = at_most_over squared-above (above (transitive left-to (whole_at_most w.to)))
              (from₂ (opposite (whole (pos 1))) size (whole unit) over
              (solve 5 (λ x u f r w. u ⊗ u ⊗ (f ⊖ x) ≐ (w ⊖ x ⊗ (u ⊗ u)) ⊕ minus (int (pos 1)) ⊗ (w ⊖ r ⊗ u) ⊕ u ⊗ (f ⊗ u ⊖ r)) refl
              left (whole unit) (fraction residual unit) (whole residual) (whole (residual *ℤ unit))));
        })
