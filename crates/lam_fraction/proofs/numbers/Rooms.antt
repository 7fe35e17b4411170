-- How far the answers of an enclosure's calls reach, whatever they hold, and the room of a call whose arguments are
-- answers of earlier calls: search finds how each was computed, and its reach is computed along.
use Rattle.std.proofs.Common.{◌≡◌, refl, sym, ◌∙◌, ap, ap₂, subst, ℕ, ◌+◌, ◌*◌, ◌^◌, ◌≤◌, max, Bool, true, ◌&&◌, leb, ◌⊎◌, inl, inr, ℤ, pos, negsuc, neg_ℤ, ◌-ℤ◌, ◌*ℤ◌, ◌≤ℤ◌, ◌<ℤ◌, unsigned_abs, int_le, arith}
use Rattle.std.proofs.Math.Nat.{mul-le-mul_right, mul-le-mul, le_of_mul-le-mul_right}
use Rattle.std.proofs.lemmas.Bool.{cases_lt}
use Rattle.std.proofs.lemmas.Int.{ints}
use Rattle.lam_fraction.specs.Fraction.{ℚ}
use Rattle.lam_fraction.specs.numbers.Arithmetic.{Arithmetic}
use Rattle.lam_fraction.specs.numbers.Ends as ends
use Rattle.lam_fraction.specs.inside.Known.{Bounds, Known}
use Rattle.lam_fraction.specs.numbers.Numbers.{Numbers, unit, reach, Lawful, RatioRoom, SumRoom, ProductRoom, MultipleRoom, SquareRoom, RootRoom, HullRoom}
use Rattle.lam_fraction.specs.inside.Reaches.{Reaches}
use Rattle.lam_fraction.proofs.Expression.{◌⊖◌, ◌⊗◌}
use Rattle.lam_fraction.proofs.Integers as Z
use Rattle.lam_fraction.proofs.Solver.{◌≐◌}
use Rattle.lam_fraction.proofs.numbers.Steps.{over_up, over_up-is, over_up-most, coarse, known_reach, units, one_unit, high-within}
use Rattle.lam_fraction.proofs.numbers.Tests.{both-left, both-right, tested, at_least_one, ratio_fits, ratio_room}

-- ---- the reach of an answer, in parts of which 2^28 make one

module _ {A : Type 0} {n : Numbers A} (laws : Lawful n) where
  -- a slop is at most four parts
  slop-parts : n.slop * 2 ^ 28 ≤ 4 * unit n
  slop-parts = mul-le-mul laws.narrow (units laws)

  -- without the factor of parts
  whole-room : (m r e : ℕ) → r * 2 ^ 28 ≤ e * unit n → e ≤ m * 2 ^ 28 → r ≤ m * unit n
  whole-room m r e h room =
      let times : e * unit n ≤ (m * 2 ^ 28) * unit n = mul-le-mul_right (unit n) room in
      omega (arith, h, times)

  pub sum_within : {e f : ℕ} {z w : A} → Reaches n e z → Reaches n f w → e + f ≤ 6 * 2 ^ 28 → SumRoom n z w
  sum_within {e} {f} {z} {w} h k room = whole-room 6 (reach n z + reach n w) (e + f) (omega (arith, h.far, k.far)) room

  pub product_within : {e f : ℕ} {z w : A} → Reaches n e z → Reaches n f w → e * f ≤ 6 * (2 ^ 28 * 2 ^ 28) → ProductRoom n z w
  product_within {e} {f} {z} {w} h k room =
      let both : (reach n z * 2 ^ 28) * (reach n w * 2 ^ 28) ≤ (e * unit n) * (f * unit n) = mul-le-mul h.far k.far in
      let times : (e * f) * (unit n * unit n) ≤ (6 * (2 ^ 28 * 2 ^ 28)) * (unit n * unit n) = mul-le-mul_right (unit n * unit n) room in
      omega (arith, both, times)

  pub multiple_within : {e : ℕ} {z : A} (k : ℤ) → Reaches n e z → e * unsigned_abs k ≤ 6 * 2 ^ 28 → MultipleRoom n z k
  multiple_within {e} {z} k h room =
      let times : (reach n z * 2 ^ 28) * unsigned_abs k ≤ (e * unit n) * unsigned_abs k = mul-le-mul_right (unsigned_abs k) h.far in
      whole-room 6 (reach n z * unsigned_abs k) (e * unsigned_abs k) (omega (arith, times)) room

  pub square_within : {e : ℕ} {z : A} → Reaches n e z → e ≤ 2 * 2 ^ 28 → SquareRoom n z
  square_within {e} {z} h room = whole-room 2 (reach n z) e h.far room

  pub reach_within : {e : ℕ} {z : A} → Reaches n e z → e ≤ 6 * 2 ^ 28 → reach n z ≤ 6 * unit n
  reach_within {e} {z} h room = whole-room 6 (reach n z) e h.far room

  pub root_within : {e : ℕ} {z : A} → Reaches n e z → e ≤ 6 * 2 ^ 28 → pos 0 ≤ℤ n.high z → RootRoom n z
  root_within {e} {z} h room sign = record { sign = sign; room = omega (arith, ints, high-within (n.low z) (n.high z), reach_within h room) }

  pub reaches_more : {e f : ℕ} {z : A} → Reaches n e z → e ≤ f → Reaches n f z
  reaches_more {e} {f} h more = let times : e * unit n ≤ f * unit n = mul-le-mul_right (unit n) more in record { far = omega (arith, h.far, times) }

  -- from what is known
  pub known_reaches : {b : Bounds} {z : A} {x : ℚ} (d e : ℕ) → 1 ≤ d → Known n d b z x → coarse b ≤ e * d → Reaches n e z
  known_reaches {b} {z} d e some h room =
      let times : coarse b * unit n ≤ (e * d) * unit n = mul-le-mul_right (unit n) room in
      record { far = le_of_mul-le-mul_right {k = d} (omega (arith, known_reach laws d some h, times)) (omega (arith, some)) }

  pub reaches_ratio : (num den : ℤ) → RatioRoom num den → Reaches n (over_up (unsigned_abs num * 2 ^ 28) (unsigned_abs den) + 4) (n.calc.ratio num den)
  reaches_ratio num den room =
      let is = laws.ratio num den room in
      let one : 1 ≤ unsigned_abs den = omega (arith, ints, room.positive) in
      let e = over_up (unsigned_abs num * 2 ^ 28) (unsigned_abs den) in
      let up : (unsigned_abs num * 2 ^ 28) * unit n ≤ (e * unsigned_abs den) * unit n = mul-le-mul_right (unit n) (over_up-is (unsigned_abs num * 2 ^ 28) (unsigned_abs den) one) in
      let slops : (n.slop * 2 ^ 28) * unsigned_abs den ≤ (4 * unit n) * unsigned_abs den = mul-le-mul_right (unsigned_abs den) slop-parts in
      record { far = le_of_mul-le-mul_right {k = unsigned_abs den} (omega (arith, is.far, up, slops)) (omega (arith, one)) }

  -- .. by a bound that is given
  pub reaches_ratio_at : (e : ℕ) (num den : ℤ) → RatioRoom num den → unsigned_abs num * 2 ^ 28 ≤ e * unsigned_abs den → Reaches n (e + 4) (n.calc.ratio num den)
  reaches_ratio_at e num den room size =
      let most = over_up-most (unsigned_abs num * 2 ^ 28) (unsigned_abs den) e (omega (arith, ints, room.positive)) size in
      reaches_more (reaches_ratio num den room) (omega (arith, most))

  pub reaches_sum : {e f : ℕ} {z w : A} → Reaches n e z → Reaches n f w → e + f ≤ 6 * 2 ^ 28 → Reaches n (e + f + 4) (n.calc.sum z w)
  reaches_sum {z = z} {w} h k room = record { far = omega (arith, (laws.sum z w (sum_within h k room)).far, h.far, k.far, slop-parts) }

  pub reaches_difference : {e f : ℕ} {z w : A} → Reaches n e z → Reaches n f w → e + f ≤ 6 * 2 ^ 28 → Reaches n (e + f + 4) (n.calc.difference z w)
  reaches_difference {z = z} {w} h k room = record { far = omega (arith, (laws.difference z w (sum_within h k room)).far, h.far, k.far, slop-parts) }

  product-far : (e f r : ℕ) (z w : A) → Reaches n e z → Reaches n f w → r * unit n ≤ reach n z * reach n w + n.slop * unit n
      → r * 2 ^ 28 ≤ (over_up (e * f) (2 ^ 28) + 4) * unit n
  product-far e f r z w h k far =
      let both : (reach n z * 2 ^ 28) * (reach n w * 2 ^ 28) ≤ (e * unit n) * (f * unit n) = mul-le-mul h.far k.far in
      let up : (e * f) * (unit n * unit n) ≤ (over_up (e * f) (2 ^ 28) * 2 ^ 28) * (unit n * unit n) = mul-le-mul_right (unit n * unit n) (over_up-is (e * f) (2 ^ 28) (omega arith)) in
      let slops : (n.slop * 2 ^ 28) * unit n ≤ (4 * unit n) * unit n = mul-le-mul_right (unit n) slop-parts in
      le_of_mul-le-mul_right {k = unit n} (omega (arith, far, both, up, slops)) (omega (arith, one_unit laws))

  pub reaches_product : {e f : ℕ} {z w : A} → Reaches n e z → Reaches n f w → e * f ≤ 6 * (2 ^ 28 * 2 ^ 28) → Reaches n (over_up (e * f) (2 ^ 28) + 4) (n.calc.product z w)
  reaches_product {e} {f} {z} {w} h k room = record { far = product-far e f (reach n (n.calc.product z w)) z w h k (laws.product z w (product_within h k room)).far }

  pub reaches_multiple : {e : ℕ} {z : A} (k : ℤ) → Reaches n e z → e * unsigned_abs k ≤ 6 * 2 ^ 28 → Reaches n (e * unsigned_abs k + 4) (n.calc.multiple z k)
  reaches_multiple {e} {z} k h room =
      let times : (reach n z * 2 ^ 28) * unsigned_abs k ≤ (e * unit n) * unsigned_abs k = mul-le-mul_right (unsigned_abs k) h.far in
      record { far = omega (arith, (laws.multiple z k (multiple_within k h room)).far, times, slop-parts) }

  pub reaches_quotient : {e : ℕ} {z : A} (k : ℤ) → Reaches n e z → pos 1 ≤ℤ k → Reaches n (over_up e (unsigned_abs k) + 4) (n.calc.quotient z k)
  reaches_quotient {e} {z} k h positive =
      let one : 1 ≤ unsigned_abs k = omega (arith, ints, positive) in
      let up : e * unit n ≤ (over_up e (unsigned_abs k) * unsigned_abs k) * unit n = mul-le-mul_right (unit n) (over_up-is e (unsigned_abs k) one) in
      let slops : (n.slop * 2 ^ 28) * unsigned_abs k ≤ (4 * unit n) * unsigned_abs k = mul-le-mul_right (unsigned_abs k) slop-parts in
      record { far = le_of_mul-le-mul_right {k = unsigned_abs k} (omega (arith, (laws.quotient z k positive).far, h.far, up, slops)) (omega (arith, one)) }

  pub reaches_square : {e : ℕ} {z : A} → Reaches n e z → e ≤ 2 * 2 ^ 28 → Reaches n (over_up (e * e) (2 ^ 28) + 4) (n.calc.square z)
  reaches_square {e} {z} h room = record { far = product-far e e (reach n (n.calc.square z)) z z h h (laws.square z (square_within h room)).far }

  pub reaches_hull : {e f : ℕ} {z w : A} → Reaches n e z → Reaches n f w → e ≤ 6 * 2 ^ 28 → f ≤ 6 * 2 ^ 28 → Reaches n (max e f + 4) (n.hull z w)
  reaches_hull {e} {f} {z} {w} h k room more =
      let first : e * unit n ≤ max e f * unit n = mul-le-mul_right (unit n) (omega arith) in
      let second : f * unit n ≤ max e f * unit n = mul-le-mul_right (unit n) (omega arith) in
      record { far = omega (arith, (laws.hull z w (record { first = reach_within h room; second = reach_within k more })).far, h.far, k.far, slop-parts, first, second) }

  -- a root of k is at most g, where a number above k has the root g
  below-root : (e g k r : ℕ) → k * k ≤ r * unit n → r * 2 ^ 28 ≤ e * unit n → e * 2 ^ 28 ≤ g * g → k * 2 ^ 28 ≤ g * unit n
  below-root e g k r square far room = elim (cases_lt (g * unit n) (k * 2 ^ 28)) [
    | inl more ↦ (
        let greater : (g * unit n + 1) * (g * unit n + 1) ≤ (k * 2 ^ 28) * (k * 2 ^ 28) = mul-le-mul (omega (arith, more)) (omega (arith, more)) in
        let reached : (r * 2 ^ 28) * unit n ≤ (e * unit n) * unit n = mul-le-mul_right (unit n) far in
        let most : (e * 2 ^ 28) * (unit n * unit n) ≤ (g * g) * (unit n * unit n) = mul-le-mul_right (unit n * unit n) room in
        absurd (omega (arith, greater, square, reached, most)))
    | inr most ↦ most
  ]

  -- ends of a root
  root-reach : (low high : ℤ) (k : ℕ) → neg_ℤ (pos n.slop) ≤ℤ low → low ≤ℤ pos 0 → low ≤ℤ high → high ≤ℤ pos (k + n.slop) → ends.reach low high ≤ k + n.slop
  unfolding ends.reach
  root-reach low high k h i j l = omega (arith, ints, h, i, j, l)

  root-size : (e g : ℕ) (high end : ℤ) (r : ℕ) → high ≤ℤ pos r → r * 2 ^ 28 ≤ e * unit n → e * 2 ^ 28 ≤ g * g
      → (end ≤ℤ pos 0) ⊎ ((end *ℤ end) <ℤ (high *ℤ pos (unit n))) → (k : ℕ) × (end ≤ℤ pos k) × (k * 2 ^ 28 ≤ g * unit n)
  root-size e g high end r size far room (inl h) = (0, h, omega arith)
  root-size e g high (negsuc k) r size far room (inr h) = (0, omega (arith, ints), omega arith)
  root-size e g high (pos k) r size far room (inr h) =
      let product : (high *ℤ pos (unit n)) ≤ℤ (pos r *ℤ pos (unit n)) = Z.at_most (Z.◌*ₙ◌ (Z.number (unit n)) (Z.above size)) (Z.solve 3 (λ h r u. r ⊗ u ⊖ h ⊗ u ≐ u ⊗ (r ⊖ h)) refl high (pos r) (pos (unit n))) in
      (k, omega (arith, ints), below-root e g k r (omega (arith, ints, h, product)) far room)

  pub reaches_root : {e : ℕ} {z : A} (g : ℕ) → Reaches n e z → e ≤ 6 * 2 ^ 28 → pos 0 ≤ℤ n.high z → e * 2 ^ 28 ≤ g * g → Reaches n (g + 4) (n.root z)
  reaches_root {e} {z} g h room sign square =
      let is = laws.root z (root_within h room sign) in
      let r = n.root z in
      let shifted : ((n.high r -ℤ pos n.slop) ≤ℤ pos 0) ⊎ (((n.high r -ℤ pos n.slop) *ℤ (n.high r -ℤ pos n.slop)) <ℤ (n.high z *ℤ pos (unit n))) =
      elim is.high [ inl l ↦ inl (omega (arith, ints, l)) | inr l ↦ inr l ] in
      let size = root-size e g (n.high z) (n.high r -ℤ pos n.slop) (reach n z) (high-within (n.low z) (n.high z)) h.far square shifted in
      let reached : reach n r ≤ size.0 + n.slop = root-reach (n.low r) (n.high r) size.0 is.least is.low (laws.ordered r) (omega (arith, ints, size.1)) in
      record { far = omega (arith, reached, size.2, slop-parts) }

-- ---- a formula that is read with its reach

pub record Ranged {A : Type 0} {n : Numbers A} (laws : Lawful n) : Type 0 where
  pub value : A
  pub far : ℕ
  pub fits : Bool
  pub reaches : fits ≡ true → Reaches n far value

-- a number whose reach is given
abbrev pub reaching : {A : Type 0} {n : Numbers A} {laws : Lawful n} {e : ℕ} {z : A} → Reaches n e z → Ranged laws
reaching {e = e} {z} h = record { value = z; far = e; fits = true; reaches = λ t. h }

-- both fit, and so do the sum and the product of their reaches
abbrev pub sum_fits : {A : Type 0} {n : Numbers A} {laws : Lawful n} → Ranged laws → Ranged laws → Bool
sum_fits t u = (t.fits && u.fits) && leb (t.far + u.far) (6 * 2 ^ 28)

abbrev pub product_fits : {A : Type 0} {n : Numbers A} {laws : Lawful n} → Ranged laws → Ranged laws → Bool
product_fits t u = (t.fits && u.fits) && leb (t.far * u.far) (6 * (2 ^ 28 * 2 ^ 28))

abbrev pub multiple_fits : {A : Type 0} {n : Numbers A} {laws : Lawful n} → Ranged laws → ℤ → Bool
multiple_fits t k = t.fits && leb (t.far * unsigned_abs k) (6 * 2 ^ 28)

-- it reaches at most e parts
abbrev pub reach_fits : {A : Type 0} {n : Numbers A} {laws : Lawful n} → Ranged laws → ℕ → Bool
reach_fits t e = t.fits && leb t.far e

abbrev pub ranges : {A : Type 0} {n : Numbers A} (laws : Lawful n) → Arithmetic (Ranged laws)
ranges {A} {n} laws = record {
  ratio = λ k m. record {
    value = n.calc.ratio k m;
    far = over_up (unsigned_abs k * 2 ^ 28) (unsigned_abs m) + 4;
    fits = ratio_fits k m;
    reaches = λ h. reaches_ratio laws k m (ratio_room k m h);
  };
  sum = λ t u. record {
    value = n.calc.sum t.value u.value;
    far = t.far + u.far + 4;
    fits = sum_fits t u;
    reaches = λ h. reaches_sum laws (t.reaches (both-left _ _ (both-left _ _ h))) (u.reaches (both-right _ _ (both-left _ _ h))) (tested _ _ (both-right _ _ h));
  };
  difference = λ t u. record {
    value = n.calc.difference t.value u.value;
    far = t.far + u.far + 4;
    fits = sum_fits t u;
    reaches = λ h. reaches_difference laws (t.reaches (both-left _ _ (both-left _ _ h))) (u.reaches (both-right _ _ (both-left _ _ h))) (tested _ _ (both-right _ _ h));
  };
  product = λ t u. record {
    value = n.calc.product t.value u.value;
    far = over_up (t.far * u.far) (2 ^ 28) + 4;
    fits = product_fits t u;
    reaches = λ h. reaches_product laws (t.reaches (both-left _ _ (both-left _ _ h))) (u.reaches (both-right _ _ (both-left _ _ h))) (tested _ _ (both-right _ _ h));
  };
  multiple = λ t k. record {
    value = n.calc.multiple t.value k;
    far = t.far * unsigned_abs k + 4;
    fits = multiple_fits t k;
    reaches = λ h. reaches_multiple laws k (t.reaches (both-left _ _ h)) (tested _ _ (both-right _ _ h));
  };
  quotient = λ t k. record {
    value = n.calc.quotient t.value k;
    far = over_up t.far (unsigned_abs k) + 4;
    fits = t.fits && int_le (pos 1) k;
    reaches = λ h. reaches_quotient laws k (t.reaches (both-left _ _ h)) (at_least_one k (both-right _ _ h));
  };
  square = λ t. record {
    value = n.calc.square t.value;
    far = over_up (t.far * t.far) (2 ^ 28) + 4;
    fits = reach_fits t (2 * 2 ^ 28);
    reaches = λ h. reaches_square laws (t.reaches (both-left _ _ h)) (tested _ _ (both-right _ _ h));
  };
}

abbrev pub hull_range : {A : Type 0} {n : Numbers A} {laws : Lawful n} → Ranged laws → Ranged laws → Ranged laws
hull_range {A} {n} {laws} t u = record {
  value = n.hull t.value u.value;
  far = max t.far u.far + 4;
  fits = reach_fits t (6 * 2 ^ 28) && reach_fits u (6 * 2 ^ 28);
  reaches = λ h. reaches_hull laws (t.reaches (both-left _ _ (both-left _ _ h))) (u.reaches (both-left _ _ (both-right _ _ h)))
      (tested _ _ (both-right _ _ (both-left _ _ h))) (tested _ _ (both-right _ _ (both-right _ _ h)));
}

-- ---- how a number was computed

pub record Room {A : Type 0} {n : Numbers A} (laws : Lawful n) (z : A) : Type 0 where
  pub at : Ranged laws
  pub is : z ≡ at.value

pub record Rooms {A : Type 0} {n : Numbers A} (laws : Lawful n) (z w : A) : Type 0 where
  pub first : Room laws z
  pub second : Room laws w

abbrev pub rooms_both : {A : Type 0} {n : Numbers A} {laws : Lawful n} {z w : A} → Room laws z → Room laws w → Rooms laws z w
rooms_both t u = record { first = t; second = u }

abbrev pub room_given : {A : Type 0} {n : Numbers A} {laws : Lawful n} {e : ℕ} {z : A} → Reaches n e z → Room laws z
room_given h = record { at = reaching h; is = refl }

-- by the value clause of the call that gave it
abbrev pub room_as : {A : Type 0} {n : Numbers A} {laws : Lawful n} {z w : A} → w ≡ z → Room laws z → Room laws w
room_as e t = record { at = t.at; is = e ∙ t.is }

abbrev pub room_of_ratio : {A : Type 0} {n : Numbers A} {laws : Lawful n} (k m : ℤ) → Room laws (n.calc.ratio k m)
room_of_ratio {laws = laws} k m = record { at = (ranges laws).ratio k m; is = refl }

abbrev pub room_of_sum : {A : Type 0} {n : Numbers A} {laws : Lawful n} {z w : A} → Room laws z → Room laws w → Room laws (n.calc.sum z w)
room_of_sum {n = n} {laws} t u = record { at = (ranges laws).sum t.at u.at; is = ap₂ n.calc.sum t.is u.is }

abbrev pub room_of_difference : {A : Type 0} {n : Numbers A} {laws : Lawful n} {z w : A} → Room laws z → Room laws w → Room laws (n.calc.difference z w)
room_of_difference {n = n} {laws} t u = record { at = (ranges laws).difference t.at u.at; is = ap₂ n.calc.difference t.is u.is }

abbrev pub room_of_product : {A : Type 0} {n : Numbers A} {laws : Lawful n} {z w : A} → Room laws z → Room laws w → Room laws (n.calc.product z w)
room_of_product {n = n} {laws} t u = record { at = (ranges laws).product t.at u.at; is = ap₂ n.calc.product t.is u.is }

abbrev pub room_of_multiple : {A : Type 0} {n : Numbers A} {laws : Lawful n} {z : A} (k : ℤ) → Room laws z → Room laws (n.calc.multiple z k)
room_of_multiple {n = n} {laws} k t = record { at = (ranges laws).multiple t.at k; is = ap (λ z. n.calc.multiple z k) t.is }

abbrev pub room_of_quotient : {A : Type 0} {n : Numbers A} {laws : Lawful n} {z : A} (k : ℤ) → Room laws z → Room laws (n.calc.quotient z k)
room_of_quotient {n = n} {laws} k t = record { at = (ranges laws).quotient t.at k; is = ap (λ z. n.calc.quotient z k) t.is }

abbrev pub room_of_square : {A : Type 0} {n : Numbers A} {laws : Lawful n} {z : A} → Room laws z → Room laws (n.calc.square z)
room_of_square {n = n} {laws} t = record { at = (ranges laws).square t.at; is = ap n.calc.square t.is }

abbrev pub room_of_hull : {A : Type 0} {n : Numbers A} {laws : Lawful n} {z w : A} → Room laws z → Room laws w → Room laws (n.hull z w)
room_of_hull {n = n} t u = record { at = hull_range t.at u.at; is = ap₂ n.hull t.is u.is }

pub ruleset rooms = (rooms_both, room_given, room_of_sum, room_of_difference, room_of_product, room_of_multiple, room_of_quotient, room_of_square, room_of_ratio, room_of_hull, room_as)

-- ---- answers: `sum_room laws (search (rooms, c) depth 20) refl`

module _ {A : Type 0} {n : Numbers A} (laws : Lawful n) where
  reaches-of : {z : A} (t : Room laws z) → t.at.fits ≡ true → Reaches n t.at.far z
  reaches-of t h = subst (λ z. Reaches n t.at.far z) (sym t.is) (t.at.reaches h)

  pub sum_room : {z w : A} (t : Rooms laws z w) → sum_fits t.first.at t.second.at ≡ true → SumRoom n z w
  sum_room t h = sum_within laws (reaches-of t.first (both-left _ _ (both-left _ _ h))) (reaches-of t.second (both-right _ _ (both-left _ _ h))) (tested _ _ (both-right _ _ h))

  pub product_room : {z w : A} (t : Rooms laws z w) → product_fits t.first.at t.second.at ≡ true → ProductRoom n z w
  product_room t h = product_within laws (reaches-of t.first (both-left _ _ (both-left _ _ h))) (reaches-of t.second (both-right _ _ (both-left _ _ h))) (tested _ _ (both-right _ _ h))

  pub multiple_room : (k : ℤ) {z : A} (t : Room laws z) → multiple_fits t.at k ≡ true → MultipleRoom n z k
  multiple_room k t h = multiple_within laws k (reaches-of t (both-left _ _ h)) (tested _ _ (both-right _ _ h))

  pub square_room : {z : A} (t : Room laws z) → reach_fits t.at (2 * 2 ^ 28) ≡ true → SquareRoom n z
  square_room t h = square_within laws (reaches-of t (both-left _ _ h)) (tested _ _ (both-right _ _ h))

  -- of a hull, for each of its arguments
  pub reach_room : {z : A} (t : Room laws z) → reach_fits t.at (6 * 2 ^ 28) ≡ true → reach n z ≤ 6 * unit n
  reach_room t h = reach_within laws (reaches-of t (both-left _ _ h)) (tested _ _ (both-right _ _ h))

  pub hull_room : {z w : A} (t : Rooms laws z w) → (hull_range t.first.at t.second.at).fits ≡ true → HullRoom n z w
  hull_room t h = record { first = reach_room t.first (both-left _ _ h); second = reach_room t.second (both-right _ _ h) }

  pub root_room : {z : A} (t : Room laws z) → pos 0 ≤ℤ n.high z → reach_fits t.at (6 * 2 ^ 28) ≡ true → RootRoom n z
  root_room t sign h = root_within laws (reaches-of t (both-left _ _ h)) (tested _ _ (both-right _ _ h)) sign

  -- of a call that says how far its arguments reach
  pub reaches_here : {e : ℕ} {z : A} (t : Room laws z) → reach_fits t.at e ≡ true → Reaches n e z
  reaches_here t h = reaches_more laws (reaches-of t (both-left _ _ h)) (tested _ _ (both-right _ _ h))
