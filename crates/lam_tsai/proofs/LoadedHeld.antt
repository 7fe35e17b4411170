-- What a stress at a factor holds: its share of 16 times the strength, over two to the power of the shift; and what it
-- tells, beyond that and round a middle.
use Rattle.std.proofs.Common.{◌≡◌, refl, sym, ◌∙◌, ap, ap₂, subst, ℕ, zero, suc, ◌+◌, ◌-◌, ◌*◌, ◌^◌, ◌≤◌, Bool, true, false, ◌||◌, ◌⊎◌, inl, inr, Some, None, ℤ, pos, negsuc, neg_ℤ, ◌+ℤ◌, ◌-ℤ◌, ◌*ℤ◌, ◌≤ℤ◌, ◌<ℤ◌, unsigned_abs, int_lt, arith}
use Rattle.std.specs.declared.option.Option.{Option}
use Rattle.std.proofs.lemmas.Int.{ints}
use Rattle.std.proofs.lemmas.Nat.{pow_pos}
use Rattle.lam_fraction.specs.Fraction.{ℚ, whole, fraction, ◌+ℚ◌, ◌-ℚ◌, ◌*ℚ◌, ◌/ℚ◌, inverse, opposite, ◌≤ℚ◌, ◌<ℚ◌}
use Rattle.lam_fraction.specs.inside.WholeNumbers.{product_positive}
use Rattle.lam_fraction.specs.inside.Reaches.{Reaches, sixteenths}
use Rattle.lam_fraction.specs.numbers.Numbers.{Numbers, Lawful, Holds, RatioRoom, unit}
use Rattle.lam_fraction.proofs.Expression.{int, ◌⊕◌, ◌⊖◌, ◌⊗◌, minus}
use Rattle.lam_fraction.proofs.Solver.{◌≐◌}
use Rattle.lam_fraction.proofs.Rationals.{solve, from₁, from₂, weaken, above, at_most_over, transitive, with_factor}
use Rattle.lam_fraction.proofs.FractionBounds.{whole_positive, times-inverse, fraction-times}
use Rattle.lam_fraction.proofs.FractionPairs.{fraction-opposite, whole-le}
use Rattle.lam_fraction.proofs.FractionRing.{whole-product, whole-sum}
use Rattle.lam_fraction.proofs.WholeFractions.{inverse-product, whole-difference}
use Rattle.lam_fraction.proofs.numbers.Consequences.{below_margin, above_margin, hull_of_opposite}
use Rattle.lam_fraction.proofs.numbers.Rooms.{product_within, reaches_ratio_at}
use Rattle.lam_fraction.proofs.numbers.Steps.{one_unit}
use Rattle.lam_tsai.specs.declared.loaded.Loaded.{Loaded}
use Rattle.lam_tsai.specs.declared.loaded.Round.{Round}
use Rattle.lam_tsai.specs.inside.Formulas as by
use Rattle.lam_tsai.specs.inside.Reach.{Bears, ReachRound}
use Rattle.lam_tsai.specs.inside.Values as value
use Rattle.lam_tsai.specs.inside.Values.{first_shift, shift_of}
use Rattle.lam_tsai.proofs.Loads.{load-positive, load-most, load-small}
use Rattle.lam_tsai.proofs.Ordered.{is_below, not_below, int_cases}
use Rattle.lam_fraction.proofs.numbers.EndFacts.{half_at_most, half_near}
use Rattle.lam_tsai.proofs.Rounding.{power-parts, middle, half, half-room, half-far, middle-room, middle-far, parts-room, parts-reach, reach-round, within-reach, stretched-room, stretched-reach, narrow-wide, narrow-fine, rounded-wide, rounded-fine}
use Rattle.lam_tsai.proofs.ScaledValue.{sixteenth, share_of}
use Rattle.lam_tsai.proofs.Shifts.{bearing-size, bearing-positive}
use Rattle.lam_tsai.proofs.Stresses.{eighth_over}

-- ---- the shift that is found

go-few : (t : Bool) (m k : ℕ) (load bound : ℤ) → int_lt (bound *ℤ pos (2 ^ k)) load ≡ t → first_shift m (k + 1) load bound ≤ m + (k + 1) → first_shift (suc m) k load bound ≤ suc m + k
unfolding first_shift
go-few true m k load bound e h = rw e (omega (arith, h))
go-few false m k load bound e h = rw e (omega arith)

pub shift-few : (m k : ℕ) (load bound : ℤ) → first_shift m k load bound ≤ m + k
unfolding first_shift
shift-few zero k load bound = omega arith
shift-few (suc m) k load bound = go-few (int_lt (bound *ℤ pos (2 ^ k)) load) m k load bound refl (shift-few m (k + 1) load bound)

go-enough : (t : Bool) (m k : ℕ) (load bound : ℤ) → int_lt (bound *ℤ pos (2 ^ k)) load ≡ t → load ≤ℤ (bound *ℤ pos (2 ^ first_shift m (k + 1) load bound)) → load ≤ℤ (bound *ℤ pos (2 ^ first_shift (suc m) k load bound))
unfolding first_shift
go-enough true m k load bound e h = rw e h
go-enough false m k load bound e h = rw e (not_below (bound *ℤ pos (2 ^ k)) load e)

pub shift-enough : (m k : ℕ) (load bound : ℤ) → load ≤ℤ (bound *ℤ pos (2 ^ (m + k))) → load ≤ℤ (bound *ℤ pos (2 ^ first_shift m k load bound))
unfolding first_shift
shift-enough zero k load bound h = let same : 0 + k ≡ k = omega arith in subst (λ e. load ≤ℤ (bound *ℤ pos (2 ^ e))) same h
shift-enough (suc m) k load bound h =
    let same : m + (k + 1) ≡ suc m + k = omega arith in
    go-enough (int_lt (bound *ℤ pos (2 ^ k)) load) m k load bound refl (shift-enough m (k + 1) load bound (subst (λ e. load ≤ℤ (bound *ℤ pos (2 ^ e))) (sym same) h))

-- ---- a share

sixteenth-is : sixteenth ≡ inverse (whole (pos 8)) *ℚ inverse (whole (pos 2))
sixteenth-is = inverse-product (pos 8) (pos 2) (omega (arith, ints)) (omega (arith, ints)) (omega (arith, ints))

-- over two to the power of a shift
abbrev pub over_power : ℚ → ℕ → ℚ
over_power y k = y *ℚ inverse (whole (pos (2 ^ k)))

power-positive : (k : ℕ) → pos 0 <ℤ pos (2 ^ k)
power-positive k = omega (arith, ints, pow_pos k)

module _ (s : ℚ) (q0 r x : ℤ) (k : ℕ) (scale : pos 0 <ℤ q0) (strength : pos 0 <ℤ x) where
  bound-is : inverse (whole ((pos 2 *ℤ x) *ℤ pos (2 ^ k))) ≡ (inverse (whole (pos 2)) *ℚ inverse (whole x)) *ℚ inverse (whole (pos (2 ^ k)))
  bound-is =
      let two : pos 0 <ℤ (pos 2 *ℤ x) = product_positive (pos 2) x (omega (arith, ints)) strength in
      inverse-product (pos 2 *ℤ x) (pos (2 ^ k)) two (power-positive k) (product_positive (pos 2 *ℤ x) (pos (2 ^ k)) two (power-positive k))
      ∙ ap (λ z. z *ℚ inverse (whole (pos (2 ^ k)))) (inverse-product (pos 2) x (omega (arith, ints)) strength two)

  gather : (s q r i8 iq i2 ix ip : ℚ) → q *ℚ iq ≡ whole (pos 1) → (s *ℚ (i8 *ℚ iq)) *ℚ ((q *ℚ r) *ℚ ((i2 *ℚ ix) *ℚ ip)) ≡ ((s *ℚ r) *ℚ ((i8 *ℚ i2) *ℚ ix)) *ℚ ip
  unfolding ◌-ℚ◌
  gather s q r i8 iq i2 ix ip e =
      from₁ (s *ℚ r *ℚ (i8 *ℚ i2 *ℚ ix) *ℚ ip) e
      (solve 8 (λ s q r i8 iq i2 ix ip. (s ⊗ (i8 ⊗ iq)) ⊗ ((q ⊗ r) ⊗ ((i2 ⊗ ix) ⊗ ip)) ≐ ((s ⊗ r) ⊗ ((i8 ⊗ i2) ⊗ ix)) ⊗ ip ⊕ s ⊗ r ⊗ (i8 ⊗ i2 ⊗ ix) ⊗ ip ⊗ (q ⊗ iq ⊖ int (pos 1))) refl s q r i8 iq i2 ix ip)

  pub share-is : eighth_over q0 s *ℚ fraction (q0 *ℤ r) ((pos 2 *ℤ x) *ℤ pos (2 ^ k)) ≡ over_power (share_of (s *ℚ whole r) x) k
  unfolding fraction ◌/ℚ◌
  share-is =
      ap₂ (λ a b. eighth_over q0 s *ℚ (a *ℚ b)) (whole-product q0 r) bound-is
      ∙ gather s (whole q0) (whole r) (inverse (whole (pos 8))) (inverse (whole q0)) (inverse (whole (pos 2))) (inverse (whole x)) (inverse (whole (pos (2 ^ k)))) (times-inverse (whole_positive scale))
      ∙ ap (λ z. ((s *ℚ whole r) *ℚ (z *ℚ inverse (whole x))) *ℚ inverse (whole (pos (2 ^ k)))) (sym sixteenth-is)

-- what a loaded stress holds
pub record HoldsLoaded {A : Type 0} (n : Numbers A) (z : Loaded A) (y : ℚ) : Type 0 where
  pub few : z.shift ≤ 24
  pub holds : Holds n z.value (over_power y z.shift)

module _ {A : Type 0} {n : Numbers A} (laws : Lawful n) where
  pub loaded-held : {t : A} {q0 x : ℤ} (s : ℚ) (r : ℤ) → pos 0 <ℤ q0 → q0 ≤ℤ pos 4194304 → Bears q0 x → pos 0 ≤ℤ r → r ≤ℤ pos 20000
      → Reaches n (sixteenths 72 + 256) t → Holds n t (eighth_over q0 s) → HoldsLoaded n (value.loaded n t (q0 *ℤ r) x) (share_of (s *ℚ whole r) x)
  loaded-held {t} {q0} {x} s r scale greatest bears from to far h =
      let least : pos 0 ≤ℤ q0 = omega (arith, ints, scale) in
      let load = q0 *ℤ r in
      let bound = pos 2 *ℤ x in
      let k = shift_of load bound in
      let positive = load-positive q0 r least greatest from to in
      let most = load-most q0 r least greatest from to in
      let small = load-small q0 r least greatest from to in
      let strength = bears.strength in
      let one : pos 1 ≤ℤ bound = omega (arith, ints, strength.least) in
      let wide : bound ≤ℤ pos (2 ^ 24) = omega (arith, ints, strength.greatest) in
      let few : k ≤ 24 = omega (arith, shift-few 24 0 load bound) in
      let borne : load ≤ℤ (bound *ℤ pos (2 ^ (24 + 0))) = omega (arith, ints, most, bears.room) in
      let enough = shift-enough 24 0 load bound borne in
      let size = bearing-size bound k one wide few in
      let above_zero = bearing-positive bound k one wide few in
      let bearing = bound *ℤ pos (2 ^ k) in
      let room : RatioRoom load bearing = record {
        positive = omega (arith, ints, above_zero);
        den = omega (arith, size);
        num = omega (arith, ints, positive, small);
        room = omega (arith, ints, positive, enough, above_zero);
      } in
      let parts : unsigned_abs load * 2 ^ 28 ≤ sixteenths 16 * unsigned_abs bearing = omega (arith, ints, positive, enough, above_zero) in
      let share = laws.ratio load bearing room in
      let product = laws.product t (n.calc.ratio load bearing) (product_within laws far (reaches_ratio_at laws (sixteenths 16) load bearing room parts) (omega arith)) in
      record {
        few = few;
        holds = subst (Holds n (by.loaded n.calc t load bearing)) (share-is s q0 r x k scale (omega (arith, ints, strength.least))) (product.held (eighth_over q0 s) (fraction load bearing) h share.held);
      }

  -- ---- beyond

  -- U over a power of two, as a part of U
  pub part-of-unit : (k : ℕ) → k ≤ 24 → fraction (pos (2 ^ (n.scale - k))) (pos (unit n)) ≡ inverse (whole (pos (2 ^ k)))
  unfolding fraction ◌/ℚ◌ ◌-ℚ◌
  part-of-unit k few =
      let m = 2 ^ (n.scale - k) in
      let p = 2 ^ k in
      let whole_is : unit n ≡ m * p = sym (power-parts k n.scale (omega (arith, few, laws.fine))) in
      let product : pos (m * p) ≡ pos m *ℤ pos p = omega (arith, ints) in
      let some : pos 0 <ℤ pos m = power-positive (n.scale - k) in
      ap (λ u. whole (pos m) *ℚ inverse (whole u)) (ap pos whole_is ∙ product)
      ∙ ap (λ z. whole (pos m) *ℚ z) (inverse-product (pos m) (pos p) some (power-positive k) (product_positive (pos m) (pos p) some (power-positive k)))
      ∙ from₁ (inverse (whole (pos p))) (times-inverse (whole_positive some))
      (solve 3 (λ m i j. m ⊗ (i ⊗ j) ≐ j ⊕ j ⊗ (m ⊗ i ⊖ int (pos 1))) refl (whole (pos m)) (inverse (whole (pos m))) (inverse (whole (pos p))))

  whole-power : (y : ℚ) (k : ℕ) → whole (pos (2 ^ k)) *ℚ over_power y k ≡ y
  unfolding ◌-ℚ◌
  whole-power y k = from₁ y (times-inverse (whole_positive (power-positive k))) (solve 3 (λ y p i. p ⊗ (y ⊗ i) ≐ y ⊕ y ⊗ (p ⊗ i ⊖ int (pos 1))) refl y (whole (pos (2 ^ k))) (inverse (whole (pos (2 ^ k)))))

  at-least-one : (y : ℚ) (k : ℕ) → inverse (whole (pos (2 ^ k))) ≤ℚ over_power y k → whole (pos 1) ≤ℚ y
  at-least-one y k h =
      let p = whole (pos (2 ^ k)) in
      let more = with_factor p (weaken (whole_positive (power-positive k))) h in
      subst (λ t. t ≤ℚ y) (times-inverse (whole_positive (power-positive k))) (subst (λ t. p *ℚ inverse p ≤ℚ t) (whole-power y k) more)

  at-most-minus-one : (y : ℚ) (k : ℕ) → over_power y k ≤ℚ opposite (inverse (whole (pos (2 ^ k)))) → y ≤ℚ opposite (whole (pos 1))
  unfolding ◌-ℚ◌
  at-most-minus-one y k h =
      let p = whole (pos (2 ^ k)) in
      let less = with_factor p (weaken (whole_positive (power-positive k))) h in
      let turned : p *ℚ opposite (inverse p) ≡ opposite (whole (pos 1)) = solve 2 (λ p i. p ⊗ minus i ≐ minus (p ⊗ i)) refl p (inverse p) ∙ ap opposite (times-inverse (whole_positive (power-positive k))) in
      subst (λ t. y ≤ℚ t) turned (subst (λ t. t ≤ℚ p *ℚ opposite (inverse p)) (whole-power y k) less)

  pub or-cases : (a b : Bool) → (a || b) ≡ true → (a ≡ true) ⊎ (b ≡ true)
  or-cases true b e = inl refl
  or-cases false b e = inr e

  pub beyond-held : {z : Loaded A} {y : ℚ} → HoldsLoaded n z y → value.beyond n z ≡ true → (whole (pos 1) ≤ℚ y) ⊎ (y ≤ℚ opposite (whole (pos 1)))
  beyond-held {z} {y} h test =
      let m = 2 ^ (n.scale - z.shift) in
      elim (or-cases (int_lt (pos m) (n.low z.value)) (int_lt (n.high z.value) (neg_ℤ (pos m))) test) [
        | inl e ↦ inl (at-least-one y z.shift (weaken (subst (λ t. t <ℚ over_power y z.shift) (part-of-unit z.shift h.few) (above_margin laws (pos m) (is_below (pos m) (n.low z.value) e) h.holds))))
        | inr e ↦ inr (at-most-minus-one y z.shift (weaken (subst (λ t. over_power y z.shift <ℚ t)
            (sym (fraction-opposite (pos m) (pos (unit n)) (omega (arith, ints, one_unit laws))) ∙ ap opposite (part-of-unit z.shift h.few))
            (below_margin laws (pos m) (is_below (n.high z.value) (neg_ℤ (pos m)) e) h.holds))))
      ]

  -- ---- round a middle

  pub record HoldsRound (r : Round A) (y : ℚ) : Type 0 where
    pub middle : ℚ
    pub distance : ℚ
    pub at_middle : Holds n r.middle middle
    pub at_distance : Holds n r.spread distance
    pub sum : middle +ℚ distance ≡ y

  -- parts of U, as a multiple of one
  in-parts : (m : ℤ) → fraction m (pos (unit n)) *ℚ whole (pos (unit n)) ≡ whole m
  in-parts m = fraction-times m (pos (unit n)) (omega (arith, ints, one_unit laws))

  unit-above : whole (pos 0) <ℚ whole (pos (unit n))
  unit-above = whole_positive (omega (arith, ints, one_unit laws))

  -- a distance of at most h parts
  distance-most : (m h high : ℤ) (y : ℚ) → high ≤ℤ (m +ℤ h) → y *ℚ whole (pos (unit n)) ≤ℚ whole high → y -ℚ fraction m (pos (unit n)) ≤ℚ fraction h (pos (unit n))
  unfolding ◌-ℚ◌
  distance-most m h high y order most =
      let u = whole (pos (unit n)) in
      at_most_over {k = u} unit-above (above (transitive most ((whole-le high (m +ℤ h)).1 order)))
      (from₂ (whole (pos 1)) (in-parts h) (whole (pos 1)) (in-parts m)
      (solve 6 (λ u h m y wh wm. u ⊗ (h ⊖ (y ⊖ m)) ≐ ((wm ⊕ wh) ⊖ y ⊗ u) ⊕ int (pos 1) ⊗ (h ⊗ u ⊖ wh) ⊕ int (pos 1) ⊗ (m ⊗ u ⊖ wm)) refl u (fraction h (pos (unit n))) (fraction m (pos (unit n))) y (whole h) (whole m)
      ∙ ap (λ z. (z -ℚ y *ℚ u) +ℚ whole (pos 1) *ℚ (fraction h (pos (unit n)) *ℚ u -ℚ whole h) +ℚ whole (pos 1) *ℚ (fraction m (pos (unit n)) *ℚ u -ℚ whole m)) (sym (whole-sum m h))))

  distance-least : (m h low : ℤ) (y : ℚ) → (m -ℤ h) ≤ℤ low → whole low ≤ℚ y *ℚ whole (pos (unit n)) → opposite (fraction h (pos (unit n))) ≤ℚ y -ℚ fraction m (pos (unit n))
  unfolding ◌-ℚ◌
  distance-least m h low y order least =
      let u = whole (pos (unit n)) in
      at_most_over {k = u} unit-above (above (transitive ((whole-le (m -ℤ h) low).1 order) least))
      (from₂ (whole (pos 1)) (in-parts h) (whole (negsuc 0)) (in-parts m)
      (solve 6 (λ u h m y wh wm. u ⊗ ((y ⊖ m) ⊖ minus h) ≐ (y ⊗ u ⊖ (wm ⊖ wh)) ⊕ int (pos 1) ⊗ (h ⊗ u ⊖ wh) ⊕ int (negsuc 0) ⊗ (m ⊗ u ⊖ wm)) refl u (fraction h (pos (unit n))) (fraction m (pos (unit n))) y (whole h) (whole m)
      ∙ ap (λ z. (y *ℚ u -ℚ z) +ℚ whole (pos 1) *ℚ (fraction h (pos (unit n)) *ℚ u -ℚ whole h) +ℚ whole (negsuc 0) *ℚ (fraction m (pos (unit n)) *ℚ u -ℚ whole m)) (sym (whole-difference m h))))

  -- a middle and half a width hold what lies between the ends
  pub round-held : (v : A) (y : ℚ) (far : Reaches n (sixteenths 18 + 4) v) → half laws v far ≤ℤ pos (2 ^ (n.scale - 4)) → Holds n v y → HoldsRound (value.round n (middle laws v far) (half laws v far)) y
  unfolding ◌-ℚ◌
  round-held v y far narrow h =
      let m = middle laws v far in
      let e = half laws v far in
      let small = half-room laws v far narrow in
      let opposite-small : unsigned_abs (neg_ℤ e) ≤ 2 * unit n = omega (arith, ints, small) in
      let first : m +ℤ e ≡ n.high v = omega (arith, ints) in
      let near = half_near (n.low v +ℤ n.high v) in
      let second : (m -ℤ e) ≤ℤ n.low v = omega (arith, ints, half_at_most (n.low v +ℤ n.high v)) in
      let up = laws.ratio e (pos (unit n)) (parts-room laws e small) in
      let down = laws.ratio (neg_ℤ e) (pos (unit n)) (parts-room laws (neg_ℤ e) opposite-small) in
      let turned : fraction (neg_ℤ e) (pos (unit n)) ≡ opposite (fraction e (pos (unit n))) = sym (fraction-opposite e (pos (unit n)) (omega (arith, ints, one_unit laws))) in
      let hull = laws.hull (n.calc.ratio e (pos (unit n))) (n.calc.ratio (neg_ℤ e) (pos (unit n))) (record { first = parts-reach laws e small; second = parts-reach laws (neg_ℤ e) opposite-small }) in
      record {
        middle = fraction m (pos (unit n));
        distance = y -ℚ fraction m (pos (unit n));
        at_middle = (laws.ratio m (pos (unit n)) (parts-room laws m (middle-room laws v far))).held;
        at_distance = hull_of_opposite laws hull up.held (subst (Holds n _) turned down.held)
            (distance-least m e (n.low v) y second h.encloses.from) (distance-most m e (n.high v) y (omega (arith, ints, first)) h.encloses.to);
        sum = solve 2 (λ m y. m ⊕ (y ⊖ m) ≐ y) refl (fraction m (pos (unit n))) y;
      }

  -- a number over a power of two, stretched
  stretched-is : (y : ℚ) (k : ℕ) → over_power y k *ℚ whole (pos (2 ^ k)) ≡ y
  unfolding ◌-ℚ◌
  stretched-is y k = solve 2 (λ a b. a ⊗ b ≐ b ⊗ a) refl (over_power y k) (whole (pos (2 ^ k))) ∙ whole-power y k

  -- either nothing is said, or it is held round a middle
  pub rounded-held : {z : Loaded A} {y : ℚ} → HoldsLoaded n z y → (P : Option (Round A) → Type 0) → P None → ((r : Round A) → HoldsRound r y → ReachRound n r → P (Some r)) → P (value.rounded n z)
  rounded-held {z} {y} h P none some = go (value.within n z.value (pos (value.nine_eighths n z.shift))) refl
    where
      go : (t : Bool) → value.within n z.value (pos (value.nine_eighths n z.shift)) ≡ t → P (value.rounded n z)
      go false e = subst P (rounded-wide n z e) none
      go true e =
          let k = z.shift in
          let within = within-reach laws z.value (value.nine_eighths n k) e in
          let v = n.calc.multiple z.value (pos (2 ^ k)) in
          let far = stretched-reach laws z.value k h.few within in
          let held = subst (Holds n v) (stretched-is y k) ((laws.multiple z.value (pos (2 ^ k)) (stretched-room laws z.value k h.few within)).held (over_power y k) h.holds) in
          let m = middle laws v far in
          let e2 = half laws v far in
          subst P (rounded-fine n z e)
          (int_cases e2 (pos (2 ^ (n.scale - 4)))
          (λ fine. subst P (narrow-fine n m e2 fine) (some (value.round n m e2) (round-held v y far fine held) (reach-round laws m e2 (middle-far laws v far) (half-far laws v far fine))))
          (λ wide. subst P (narrow-wide n m e2 wide) none))
