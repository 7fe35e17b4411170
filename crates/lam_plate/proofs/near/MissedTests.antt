-- Comparisons by cross products that fail: what they say of the numbers themselves, where steps and widths are small.
use Rattle.std.proofs.Common.{◌≡◌, refl, sym, ◌∙◌, ap, subst, subst₂, ℕ, suc, ◌^◌, ℤ, pos, ◌+ℤ◌, ◌-ℤ◌, ◌*ℤ◌, ◌≤ℤ◌, arith}
use Rattle.std.proofs.lemmas.Int.{ints}
use Rattle.lam_fraction.specs.Fraction.{ℚ, whole, ◌+ℚ◌, ◌*ℚ◌, ◌≤ℚ◌, ◌<ℚ◌, ◌-ℚ◌}
use Rattle.lam_fraction.proofs.Expression.{int, ◌⊕◌, ◌⊖◌, ◌⊗◌}
use Rattle.lam_fraction.proofs.Solver.{◌≐◌}
use Rattle.lam_fraction.proofs.Integers as Z
use Rattle.lam_fraction.proofs.Rationals.{solve, from₁, above, weaken, reflexive, number, positive_number, at_most_over, ◌+ₙ◌, ◌*ₙ◌}
use Rattle.lam_fraction.specs.numbers.Numbers.{Numbers, Lawful, Holds, unit, width}
use Rattle.lam_fraction.proofs.FractionBounds.{whole_positive, sum_monotone}
use Rattle.lam_fraction.proofs.FractionPairs.{whole-le}
use Rattle.lam_fraction.proofs.FractionRing.{whole-product, whole-sum}
use Rattle.lam_fraction.proofs.WholeFractions.{whole_at_most, whole-difference}
use Rattle.lam_fraction.proofs.numbers.Steps.{width-is}
use Rattle.lam_plate.specs.inside.Formulas as by
use Rattle.lam_plate.proofs.CrossProducts.{power-above, below-next, shifted-within}
use Rattle.lam_plate.proofs.near.ShiftSteps.{InPlate, SmallStep}

-- ---- whole numbers, of which a step makes shifted ones

pub not_met-cross : (num den load stiffness low high step : ℤ) → pos 0 ≤ℤ low → pos 0 ≤ℤ high → pos 0 ≤ℤ step
    → (load *ℤ step) ≤ℤ num → den ≤ℤ ((stiffness +ℤ pos 1) *ℤ step) → (low *ℤ stiffness) ≤ℤ ((load +ℤ pos 1) *ℤ high) → (low *ℤ (den -ℤ step)) ≤ℤ ((num +ℤ step) *ℤ high)
not_met-cross num den load stiffness low high step low_least high_least step_least num_least den_most cross =
    Z.at_most (Z.◌+ₙ◌ (Z.◌+ₙ◌ (Z.◌*ₙ◌ step_least (Z.above cross)) (Z.◌*ₙ◌ high_least (Z.above num_least))) (Z.◌*ₙ◌ low_least (Z.above den_most)))
    (Z.solve 7 (λ num den load stiffness low high step. (num ⊕ step) ⊗ high ⊖ low ⊗ (den ⊖ step)
    ≐ step ⊗ ((load ⊕ int (pos 1)) ⊗ high ⊖ low ⊗ stiffness) ⊕ high ⊗ (num ⊖ load ⊗ step) ⊕ low ⊗ ((stiffness ⊕ int (pos 1)) ⊗ step ⊖ den)) refl num den load stiffness low high step)

pub not_failed-cross : (num den load stiffness low high step : ℤ) → pos 0 ≤ℤ low → pos 0 ≤ℤ high → pos 0 ≤ℤ step
    → num ≤ℤ ((load +ℤ pos 1) *ℤ step) → (stiffness *ℤ step) ≤ℤ den → (load *ℤ low) ≤ℤ (high *ℤ (stiffness +ℤ pos 1)) → ((num -ℤ step) *ℤ low) ≤ℤ (high *ℤ (den +ℤ step))
not_failed-cross num den load stiffness low high step low_least high_least step_least num_most den_least cross =
    Z.at_most (Z.◌+ₙ◌ (Z.◌+ₙ◌ (Z.◌*ₙ◌ step_least (Z.above cross)) (Z.◌*ₙ◌ high_least (Z.above den_least))) (Z.◌*ₙ◌ low_least (Z.above num_most)))
    (Z.solve 7 (λ num den load stiffness low high step. high ⊗ (den ⊕ step) ⊖ (num ⊖ step) ⊗ low
    ≐ step ⊗ (high ⊗ (stiffness ⊕ int (pos 1)) ⊖ load ⊗ low) ⊕ high ⊗ (den ⊖ stiffness ⊗ step) ⊕ low ⊗ ((load ⊕ int (pos 1)) ⊗ step ⊖ num)) refl num den load stiffness low high step)

-- ---- fractions: the form g and the product t of the shares, of which u make the ends of enclosures

-- how wide the enclosures are, in parts of what they hold
pub record Narrowly (g t u wide narrow : ℚ) : Type 0 where
  pub form : whole (pos 1000000) *ℚ wide ≤ℚ g *ℚ u
  pub shares : whole (pos 10000) *ℚ narrow ≤ℚ t *ℚ u

-- where it is not met
not_met-units : (g t u num den c low high wide narrow : ℚ) → whole (pos 0) <ℚ u → whole (pos 0) ≤ℚ num → whole (pos 0) ≤ℚ den → whole (pos 0) ≤ℚ c
    → Narrowly g t u wide narrow → low ≤ℚ g *ℚ u → g *ℚ u ≤ℚ low +ℚ wide → high ≤ℚ t *ℚ u +ℚ narrow → low *ℚ (den -ℚ c) ≤ℚ (num +ℚ c) *ℚ high
    → whole (pos 999999) *ℚ (g *ℚ den) ≤ℚ whole (pos 1000100) *ℚ (num *ℚ t +ℚ c *ℚ t) +ℚ whole (pos 1000000) *ℚ (c *ℚ g)
unfolding ◌-ℚ◌
not_met-units g t u num den c low high wide narrow u_above num_least den_least c_least n from to shares cross =
    at_most_over u_above
    (number 1000000 *ₙ above cross +ₙ number 1000000 *ₙ (num_least +ₙ c_least) *ₙ above shares +ₙ number 100 *ₙ (num_least +ₙ c_least) *ₙ above n.shares
    +ₙ number 1000000 *ₙ den_least *ₙ above to +ₙ den_least *ₙ above n.form +ₙ number 1000000 *ₙ c_least *ₙ above from)
    (solve 10 (λ g t u num den c low high wide narrow.
    u ⊗ ((int (pos 1000100) ⊗ (num ⊗ t ⊕ c ⊗ t) ⊕ int (pos 1000000) ⊗ (c ⊗ g)) ⊖ int (pos 999999) ⊗ (g ⊗ den))
    ≐ int (pos 1000000) ⊗ ((num ⊕ c) ⊗ high ⊖ low ⊗ (den ⊖ c)) ⊕ int (pos 1000000) ⊗ (num ⊕ c) ⊗ ((t ⊗ u ⊕ narrow) ⊖ high) ⊕ int (pos 100) ⊗ (num ⊕ c) ⊗ (t ⊗ u ⊖ int (pos 10000) ⊗ narrow)
    ⊕ int (pos 1000000) ⊗ den ⊗ ((low ⊕ wide) ⊖ g ⊗ u) ⊕ den ⊗ (g ⊗ u ⊖ int (pos 1000000) ⊗ wide) ⊕ int (pos 1000000) ⊗ c ⊗ (g ⊗ u ⊖ low)) refl g t u num den c low high wide narrow)

-- where it does not fail
not_failed-units : (g t u num den c low high wide narrow : ℚ) → whole (pos 0) <ℚ u → whole (pos 0) ≤ℚ num → whole (pos 0) ≤ℚ den → whole (pos 0) ≤ℚ c
    → Narrowly g t u wide narrow → high ≤ℚ g *ℚ u +ℚ wide → low ≤ℚ t *ℚ u → t *ℚ u ≤ℚ low +ℚ narrow → (num -ℚ c) *ℚ low ≤ℚ high *ℚ (den +ℚ c)
    → whole (pos 999900) *ℚ (num *ℚ t) ≤ℚ whole (pos 1000001) *ℚ (g *ℚ den +ℚ c *ℚ g) +ℚ whole (pos 1000000) *ℚ (c *ℚ t)
unfolding ◌-ℚ◌
not_failed-units g t u num den c low high wide narrow u_above num_least den_least c_least n form from to cross =
    at_most_over u_above
    (number 1000000 *ₙ above cross +ₙ number 1000000 *ₙ (den_least +ₙ c_least) *ₙ above form +ₙ (den_least +ₙ c_least) *ₙ above n.form
    +ₙ number 1000000 *ₙ num_least *ₙ above to +ₙ number 100 *ₙ num_least *ₙ above n.shares +ₙ number 1000000 *ₙ c_least *ₙ above from)
    (solve 10 (λ g t u num den c low high wide narrow.
    u ⊗ ((int (pos 1000001) ⊗ (g ⊗ den ⊕ c ⊗ g) ⊕ int (pos 1000000) ⊗ (c ⊗ t)) ⊖ int (pos 999900) ⊗ (num ⊗ t))
    ≐ int (pos 1000000) ⊗ (high ⊗ (den ⊕ c) ⊖ (num ⊖ c) ⊗ low) ⊕ int (pos 1000000) ⊗ (den ⊕ c) ⊗ ((g ⊗ u ⊕ wide) ⊖ high) ⊕ (den ⊕ c) ⊗ (g ⊗ u ⊖ int (pos 1000000) ⊗ wide)
    ⊕ int (pos 1000000) ⊗ num ⊗ ((low ⊕ narrow) ⊖ t ⊗ u) ⊕ int (pos 100) ⊗ num ⊗ (t ⊗ u ⊖ int (pos 10000) ⊗ narrow) ⊕ int (pos 1000000) ⊗ c ⊗ (t ⊗ u ⊖ low)) refl g t u num den c low high wide narrow)

-- ---- without steps

-- p is g den, q is num t
not_met-parts : (p q ct cg : ℚ) → whole (pos 0) ≤ℚ q → whole (pos 0) ≤ℚ ct → whole (pos 10000) *ℚ ct ≤ℚ q +ℚ p → whole (pos 1000) *ℚ cg ≤ℚ q +ℚ p
    → whole (pos 999999) *ℚ p ≤ℚ whole (pos 1000100) *ℚ (q +ℚ ct) +ℚ whole (pos 1000000) *ℚ cg → whole (pos 200) *ℚ p ≤ℚ whole (pos 201) *ℚ q
unfolding ◌-ℚ◌
not_met-parts p q ct cg q_least ct_least shares form h =
    at_most_over (positive_number 998897)
    (number 200 *ₙ (above h +ₙ number 101 *ₙ above shares +ₙ number 1000 *ₙ above form +ₙ number 9900 *ₙ ct_least) +ₙ number 538298 *ₙ q_least)
    (solve 4 (λ p q ct cg. int (pos 998898) ⊗ (int (pos 201) ⊗ q ⊖ int (pos 200) ⊗ p)
    ≐ int (pos 200) ⊗ ((int (pos 1000100) ⊗ (q ⊕ ct) ⊕ int (pos 1000000) ⊗ cg ⊖ int (pos 999999) ⊗ p) ⊕ int (pos 101) ⊗ ((q ⊕ p) ⊖ int (pos 10000) ⊗ ct) ⊕ int (pos 1000) ⊗ ((q ⊕ p) ⊖ int (pos 1000) ⊗ cg) ⊕ int (pos 9900) ⊗ ct)
    ⊕ int (pos 538298) ⊗ q) refl p q ct cg)

not_failed-parts : (p q ct cg : ℚ) → whole (pos 0) ≤ℚ p → whole (pos 0) ≤ℚ cg → whole (pos 10000) *ℚ ct ≤ℚ q +ℚ p → whole (pos 1000) *ℚ cg ≤ℚ q +ℚ p
    → whole (pos 999900) *ℚ q ≤ℚ whole (pos 1000001) *ℚ (p +ℚ cg) +ℚ whole (pos 1000000) *ℚ ct → whole (pos 199) *ℚ q ≤ℚ whole (pos 200) *ℚ p
unfolding ◌-ℚ◌
not_failed-parts p q ct cg p_least cg_least shares form h =
    at_most_over (positive_number 998798)
    (number 199 *ₙ (above h +ₙ number 100 *ₙ above shares +ₙ number 1001 *ₙ above form +ₙ number 999 *ₙ cg_least) +ₙ number 540502 *ₙ p_least)
    (solve 4 (λ p q ct cg. int (pos 998799) ⊗ (int (pos 200) ⊗ p ⊖ int (pos 199) ⊗ q)
    ≐ int (pos 199) ⊗ ((int (pos 1000001) ⊗ (p ⊕ cg) ⊕ int (pos 1000000) ⊗ ct ⊖ int (pos 999900) ⊗ q) ⊕ int (pos 100) ⊗ ((q ⊕ p) ⊖ int (pos 10000) ⊗ ct) ⊕ int (pos 1001) ⊗ ((q ⊕ p) ⊖ int (pos 1000) ⊗ cg) ⊕ int (pos 999) ⊗ cg)
    ⊕ int (pos 540502) ⊗ p) refl p q ct cg)

module _ {A : Type 0} {n : Numbers A} (laws : Lawful n) {form shares : A} {g t : ℚ} (form_holds : Holds n form g) (shares_hold : Holds n shares t) (inside : InPlate g t)
    (narrow : Narrowly g t (whole (pos (unit n))) (whole (pos (width n form))) (whole (pos (width n shares)))) where
  abbrev u : ℚ
  u = whole (pos (unit n))

  unit_above : whole (pos 0) <ℚ u
  unit_above = whole_positive (power-above n.scale)

  high-is : (z : A) → whole (n.high z) ≡ whole (n.low z) +ℚ whole (pos (width n z))
  high-is z = ap whole (width-is (n.low z) (n.high z) (laws.ordered z)) ∙ whole-sum (n.low z) (pos (width n z))

  form-to : g *ℚ u ≤ℚ whole (n.low form) +ℚ whole (pos (width n form))
  form-to = subst (λ y. g *ℚ u ≤ℚ y) (high-is form) form_holds.encloses.to

  form-high : whole (n.high form) ≤ℚ g *ℚ u +ℚ whole (pos (width n form))
  form-high = subst (λ y. y ≤ℚ g *ℚ u +ℚ whole (pos (width n form))) (sym (high-is form)) (sum_monotone form_holds.encloses.from (reflexive (whole (pos (width n form)))))

  shares-to : t *ℚ u ≤ℚ whole (n.low shares) +ℚ whole (pos (width n shares))
  shares-to = subst (λ y. t *ℚ u ≤ℚ y) (high-is shares) shares_hold.encloses.to

  shares-high : whole (n.high shares) ≤ℚ t *ℚ u +ℚ whole (pos (width n shares))
  shares-high = subst (λ y. y ≤ℚ t *ℚ u +ℚ whole (pos (width n shares))) (sym (high-is shares)) (sum_monotone shares_hold.encloses.from (reflexive (whole (pos (width n shares)))))

  -- the low end of what is held narrowly is not negative
  low-least : (k : ℕ) (x low wide : ℚ) → whole (pos 0) ≤ℚ x → x ≤ℚ low +ℚ wide → whole (pos (suc k)) *ℚ wide ≤ℚ x → whole (pos 0) ≤ℚ low
  unfolding ◌-ℚ◌
  low-least k x low wide sign to small =
      at_most_over (positive_number k) (number (suc k) *ₙ above to +ₙ above small +ₙ number k *ₙ sign)
      (from₁ x (one-more k) (solve 5 (λ j k x low wide. j ⊗ (low ⊖ int (pos 0)) ≐ j ⊗ ((low ⊕ wide) ⊖ x) ⊕ (x ⊖ j ⊗ wide) ⊕ k ⊗ x ⊕ x ⊗ (j ⊖ (k ⊕ int (pos 1)))) refl (whole (pos (suc k))) (whole (pos k)) x low wide))
    where
      one-more : (k : ℕ) → whole (pos (suc k)) ≡ whole (pos k) +ℚ whole (pos 1)
      one-more k = ap whole (let e : pos (suc k) ≡ pos k +ℤ pos 1 = omega (arith, ints) in e) ∙ whole-sum (pos k) (pos 1)

  form-low : pos 0 ≤ℤ n.low form
  form-low = (whole-le (pos 0) (n.low form)).0 (low-least 999999 (g *ℚ u) (whole (n.low form)) (whole (pos (width n form))) (inside.form_above *ₙ weaken unit_above) form-to narrow.form)

  shares-low : pos 0 ≤ℤ n.low shares
  shares-low = (whole-le (pos 0) (n.low shares)).0 (low-least 9999 (t *ℚ u) (whole (n.low shares)) (whole (pos (width n shares))) (weaken inside.shares_above *ₙ weaken unit_above) shares-to narrow.shares)

  form-above : pos 0 ≤ℤ n.high form
  form-above = let o = laws.ordered form in let l = form-low in omega (arith, ints, o, l)

  shares-above : pos 0 ≤ℤ n.high shares
  shares-above = let o = laws.ordered shares in let l = shares-low in omega (arith, ints, o, l)

  module _ (num den : ℤ) (k : ℕ) (num_least : pos 0 ≤ℤ num) (den_least : pos 0 ≤ℤ den) (small : SmallStep g t (whole num) (whole den) (whole (pos (2 ^ k)))) where
    abbrev step : ℤ
    step = pos (2 ^ k)

    step_least : pos 0 ≤ℤ step
    step_least = Z.weaken (power-above k)

    difference-is : (a b c : ℤ) → whole (a *ℤ (b -ℤ c)) ≡ whole a *ℚ (whole b -ℚ whole c)
    difference-is a b c = whole-product a (b -ℤ c) ∙ ap (λ z. whole a *ℚ z) (whole-difference b c)

    pub not_met : (n.low form *ℤ by.shifted den k) ≤ℤ ((by.shifted num k +ℤ pos 1) *ℤ n.high shares) → whole (pos 200) *ℚ (g *ℚ whole den) ≤ℚ whole (pos 201) *ℚ (whole num *ℚ t)
    not_met cross =
        let lower = not_met-cross num den (by.shifted num k) (by.shifted den k) (n.low form) (n.high shares) step form-low shares-above step_least
        (shifted-within num k) (Z.weaken (below-next den k)) cross in
        let held : whole (n.low form) *ℚ (whole den -ℚ whole step) ≤ℚ (whole num +ℚ whole step) *ℚ whole (n.high shares) =
        subst₂ ◌≤ℚ◌ (difference-is (n.low form) den step) (whole-product (num +ℤ step) (n.high shares) ∙ ap (λ z. z *ℚ whole (n.high shares)) (whole-sum num step)) (whole_at_most lower) in
        not_met-parts (g *ℚ whole den) (whole num *ℚ t) (whole step *ℚ t) (whole step *ℚ g)
        (whole_at_most num_least *ₙ weaken inside.shares_above) (whole_at_most step_least *ₙ weaken inside.shares_above) small.shares small.form
        (not_met-units g t u (whole num) (whole den) (whole step) (whole (n.low form)) (whole (n.high shares)) (whole (pos (width n form))) (whole (pos (width n shares)))
        unit_above (whole_at_most num_least) (whole_at_most den_least) (whole_at_most step_least) narrow form_holds.encloses.from form-to shares-high held)

    pub not_failed : (by.shifted num k *ℤ n.low shares) ≤ℤ (n.high form *ℤ (by.shifted den k +ℤ pos 1)) → whole (pos 199) *ℚ (whole num *ℚ t) ≤ℚ whole (pos 200) *ℚ (g *ℚ whole den)
    not_failed cross =
        let lower = not_failed-cross num den (by.shifted num k) (by.shifted den k) (n.low shares) (n.high form) step shares-low form-above step_least
        (Z.weaken (below-next num k)) (shifted-within den k) cross in
        let held : (whole num -ℚ whole step) *ℚ whole (n.low shares) ≤ℚ whole (n.high form) *ℚ (whole den +ℚ whole step) =
        subst₂ ◌≤ℚ◌ (whole-product (num -ℤ step) (n.low shares) ∙ ap (λ z. z *ℚ whole (n.low shares)) (whole-difference num step)) (whole-product (n.high form) (den +ℤ step) ∙ ap (λ z. whole (n.high form) *ℚ z) (whole-sum den step)) (whole_at_most lower) in
        not_failed-parts (g *ℚ whole den) (whole num *ℚ t) (whole step *ℚ t) (whole step *ℚ g)
        (inside.form_above *ₙ whole_at_most den_least) (whole_at_most step_least *ₙ inside.form_above) small.shares small.form
        (not_failed-units g t u (whole num) (whole den) (whole step) (whole (n.low shares)) (whole (n.high form)) (whole (pos (width n form))) (whole (pos (width n shares)))
        unit_above (whole_at_most num_least) (whole_at_most den_least) (whole_at_most step_least) narrow form-high shares_hold.encloses.from shares-to held)
