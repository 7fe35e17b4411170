-- What is known of the answers of an enclosure's calls, from what is known of their arguments, for any parts d of one.
-- Bounds are computed at the coarsest scale, 28, and at the greatest slop, 4, so that they serve every kind of enclosure.
use Rattle.std.proofs.Common.{◌≡◌, refl, sym, ◌∙◌, ap, subst, subst₂, ℕ, ◌+◌, ◌-◌, ◌*◌, ◌/◌, ◌^◌, ◌≤◌, ◌<◌, ◌⊎◌, inl, inr, ℤ, pos, neg_ℤ, ◌+ℤ◌, ◌*ℤ◌, ◌≤ℤ◌, ◌<ℤ◌, unsigned_abs, arith}
use Rattle.std.specs.Int.{int_min, int_max}
use Rattle.std.proofs.Math.Nat.{mul-le-mul_right, mul-le-mul, le_of_mul-le-mul_right, pow-le-pow_right}
use Rattle.std.proofs.lemmas.Bool.{cases_lt}
use Rattle.std.proofs.lemmas.Int.{ints, clamps, unsigned_abs-mul}
use Rattle.lam_fraction.specs.Fraction.{ℚ, whole, fraction, ◌+ℚ◌, ◌-ℚ◌, ◌*ℚ◌, ◌/ℚ◌, opposite, ◌≤ℚ◌}
use Rattle.lam_fraction.specs.numbers.Ends as ends
use Rattle.lam_fraction.specs.inside.Known.{Bounds, Known}
use Rattle.lam_fraction.specs.numbers.Numbers.{Numbers, unit, reach, width, Holds, Lawful, RatioRoom, SumRoom, ProductRoom, MultipleRoom, SquareRoom, HullRoom}
use Rattle.lam_fraction.proofs.Expression.{◌⊕◌, ◌⊖◌, ◌⊗◌, minus}
use Rattle.lam_fraction.proofs.FractionBounds.{opposite_antitone}
use Rattle.lam_fraction.proofs.FractionPairs.{whole-le, whole-lt}
use Rattle.lam_fraction.proofs.FractionRing.{whole-product}
use Rattle.lam_fraction.proofs.Integers as Z
use Rattle.lam_fraction.proofs.Rationals.{solve, transitive, above, at_most, number, with_factor, without_factor, product_within, solution_is, fraction_times, not_zero, ◌+ₙ◌, ◌*ₙ◌}
use Rattle.lam_fraction.proofs.Solver.{◌≐◌}
use Rattle.lam_fraction.proofs.WholeFractions.{whole-opposite, natural-sum, natural-product, size_below, size_above}

-- ---- whole quotients, rounded up
abbrev pub over_up : ℕ → ℕ → ℕ
over_up m k = (m + (k - 1)) / k

pub over_up-is : (m k : ℕ) → 1 ≤ k → m ≤ over_up m k * k
over_up-is m k h = omega arith

pub over_up-most : (m k v : ℕ) → 1 ≤ k → m ≤ v * k → over_up m k ≤ v
over_up-most m k v h room = elim (cases_lt v (over_up m k)) [
  | inl more ↦ (let times : (v + 1) * k ≤ over_up m k * k = mul-le-mul_right k (omega (arith, more)) in absurd (omega (arith, times, room)))
  | inr most ↦ most
]

-- with a number that is added after the rounding
pub over_up-plus : (m k e v : ℕ) → 1 ≤ k → m + e * k ≤ v * k → over_up m k + e ≤ v
over_up-plus m k e v h room = elim (cases_lt v e) [
  | inl more ↦ (let times : (v + 1) * k ≤ e * k = mul-le-mul_right k (omega (arith, more)) in absurd (omega (arith, times, room)))
  | inr most ↦ (
      let whole_part : v ≡ (v - e) + e = omega (arith, most) in
      let times : v * k ≡ (v - e) * k + e * k = ap (λ w. w * k) whole_part ∙ omega arith in
      let rest : over_up m k ≤ v - e = over_up-most m k (v - e) h (omega (arith, times, room)) in
      omega (arith, rest, most))
]

-- ---- sizes in parts of which d make one

abbrev pub Parts : ℕ → ℕ → ℚ → Type 0
Parts d b x = (opposite (whole (pos b)) ≤ℚ whole (pos d) *ℚ x) × (whole (pos d) *ℚ x ≤ℚ whole (pos b))

natural-most : (m n : ℕ) → m ≤ n → whole (pos m) ≤ℚ whole (pos n)
natural-most m n h = (whole-le (pos m) (pos n)).1 (omega (arith, ints))

parts-more : (d b c : ℕ) (x : ℚ) → Parts d b x → b ≤ c → Parts d c x
parts-more d b c x h more = (transitive (opposite_antitone (natural-most b c more)) h.0, transitive h.1 (natural-most b c more))

parts-sum : (d b c : ℕ) (x y : ℚ) → Parts d b x → Parts d c y → Parts d (b + c) (x +ℚ y)
unfolding ◌-ℚ◌
parts-sum d b c x y h k = (
  at_most (above h.0 +ₙ above k.0) (ap (λ z. whole (pos d) *ℚ (x +ℚ y) -ℚ opposite z) (natural-sum b c)
      ∙ solve 5 (λ d x y m n. d ⊗ (x ⊕ y) ⊖ minus (m ⊕ n) ≐ (d ⊗ x ⊖ minus m) ⊕ (d ⊗ y ⊖ minus n)) refl (whole (pos d)) x y (whole (pos b)) (whole (pos c))),
  at_most (above h.1 +ₙ above k.1) (ap (λ z. z -ℚ whole (pos d) *ℚ (x +ℚ y)) (natural-sum b c)
      ∙ solve 5 (λ d x y m n. (m ⊕ n) ⊖ d ⊗ (x ⊕ y) ≐ (m ⊖ d ⊗ x) ⊕ (n ⊖ d ⊗ y)) refl (whole (pos d)) x y (whole (pos b)) (whole (pos c))),
)

parts-opposite : (d b : ℕ) (x : ℚ) → Parts d b x → Parts d b (opposite x)
unfolding ◌-ℚ◌
parts-opposite d b x h = (
  at_most (above h.1) (solve 3 (λ d x m. d ⊗ minus x ⊖ minus m ≐ m ⊖ d ⊗ x) refl (whole (pos d)) x (whole (pos b))),
  at_most (above h.0) (solve 3 (λ d x m. m ⊖ d ⊗ minus x ≐ d ⊗ x ⊖ minus m) refl (whole (pos d)) x (whole (pos b))),
)

parts-difference : (d b c : ℕ) (x y : ℚ) → Parts d b x → Parts d c y → Parts d (b + c) (x -ℚ y)
unfolding ◌-ℚ◌
parts-difference d b c x y h k = parts-sum d b c x (opposite y) h (parts-opposite d c y k)

parts-multiple : (d b : ℕ) (k : ℤ) (x : ℚ) → Parts d b x → Parts d (b * unsigned_abs k) (x *ℚ whole k)
parts-multiple d b k x h =
    let inside = product_within h.0 h.1 (size_below k) (size_above k) in
    let e : (whole (pos d) *ℚ x) *ℚ whole k ≡ whole (pos d) *ℚ (x *ℚ whole k) = solve 3 (λ d x k. (d ⊗ x) ⊗ k ≐ d ⊗ (x ⊗ k)) refl (whole (pos d)) x (whole k) in
    let m = natural-product b (unsigned_abs k) in
    (subst₂ (λ s t. s ≤ℚ t) (ap opposite (sym m)) e inside.0, subst₂ (λ s t. s ≤ℚ t) e (sym m) inside.1)

-- a number, of which k times is within m parts, is within v of them where m is at most v k
parts-over : (d v m : ℕ) (k : ℤ) (x y : ℚ) → pos 0 <ℤ k → whole k *ℚ y ≡ x → Parts d m x → m ≤ v * unsigned_abs k → Parts d v y
parts-over d v m k x y positive e h room =
    let size : pos (unsigned_abs k) ≡ k = omega (arith, ints, positive) in
    let product : whole (pos (v * unsigned_abs k)) ≡ whole k *ℚ whole (pos v) = natural-product v (unsigned_abs k) ∙ ap (λ z. whole (pos v) *ℚ whole z) size ∙ solve 2 (λ v k. v ⊗ k ≐ k ⊗ v) refl (whole (pos v)) (whole k) in
    let below_zero : opposite (whole (pos (v * unsigned_abs k))) ≡ whole k *ℚ opposite (whole (pos v)) = ap opposite product ∙ solve 2 (λ v k. minus (k ⊗ v) ≐ k ⊗ minus v) refl (whole (pos v)) (whole k) in
    let scaled : whole (pos d) *ℚ x ≡ whole k *ℚ (whole (pos d) *ℚ y) = ap (λ z. whole (pos d) *ℚ z) (sym e) ∙ solve 3 (λ d k y. d ⊗ (k ⊗ y) ≐ k ⊗ (d ⊗ y)) refl (whole (pos d)) (whole k) y in
    let factor = (whole-lt (pos 0) k).1 positive in
    let most = parts-more d m (v * unsigned_abs k) x h room in (
      without_factor (whole k) factor (subst₂ (λ s t. s ≤ℚ t) below_zero scaled most.0),
      without_factor (whole k) factor (subst₂ (λ s t. s ≤ℚ t) scaled product most.1),
    )

parts-product : (d b c v : ℕ) (x y : ℚ) → 1 ≤ d → Parts d b x → Parts d c y → b * c ≤ v * d → Parts d v (x *ℚ y)
parts-product d b c v x y some h k room =
    let inside = product_within h.0 h.1 k.0 k.1 in
    let e : (whole (pos d) *ℚ x) *ℚ (whole (pos d) *ℚ y) ≡ whole (pos d) *ℚ (whole (pos d) *ℚ (x *ℚ y)) = solve 3 (λ d x y. (d ⊗ x) ⊗ (d ⊗ y) ≐ d ⊗ (d ⊗ (x ⊗ y))) refl (whole (pos d)) x y in
    let m = natural-product b c in
    parts-over d v (b * c) (pos d) (whole (pos d) *ℚ (x *ℚ y)) (x *ℚ y) (omega (arith, ints)) refl
    (subst₂ (λ s t. s ≤ℚ t) (ap opposite (sym m)) e inside.0, subst₂ (λ s t. s ≤ℚ t) e (sym m) inside.1) room

parts-quotient : (d b v : ℕ) (k : ℤ) (x : ℚ) → pos 1 ≤ℤ k → Parts d b x → b ≤ v * unsigned_abs k → Parts d v (x /ℚ whole k)
parts-quotient d b v k x positive h room =
    let above_zero : pos 0 <ℤ k = omega (arith, ints) in
    parts-over d v b k x (x /ℚ whole k) above_zero (solution_is (whole k) x (not_zero ((whole-lt (pos 0) k).1 above_zero))) h room

parts-ratio : (d v : ℕ) (num den : ℤ) → pos 0 <ℤ den → unsigned_abs num * d ≤ v * unsigned_abs den → Parts d v (fraction num den)
parts-ratio d v num den positive room =
    let m = natural-product (unsigned_abs num) d in
    let turned : whole (pos (unsigned_abs num)) *ℚ whole (pos d) ≡ whole (pos d) *ℚ whole (pos (unsigned_abs num)) = solve 2 (λ a b. a ⊗ b ≐ b ⊗ a) refl (whole (pos (unsigned_abs num))) (whole (pos d)) in
    let below_zero : opposite (whole (pos (unsigned_abs num * d))) ≡ whole (pos d) *ℚ opposite (whole (pos (unsigned_abs num)))
    = ap opposite (m ∙ turned) ∙ solve 2 (λ a b. minus (a ⊗ b) ≐ a ⊗ minus b) refl (whole (pos d)) (whole (pos (unsigned_abs num))) in
    parts-over d v (unsigned_abs num * d) den (whole num) (fraction num den) positive (fraction_times num den positive) (
      subst (λ s. s ≤ℚ whole (pos d) *ℚ whole num) (sym below_zero) (with_factor (whole (pos d)) (number d) (size_below num)),
      subst (λ s. whole (pos d) *ℚ whole num ≤ℚ s) (sym (m ∙ turned)) (with_factor (whole (pos d)) (number d) (size_above num)),
    ) room

-- ---- bounds of answers

-- the reach of what has these bounds is at most so much, of which d * 2^28 make one
abbrev pub coarse : Bounds → ℕ
coarse b = b.size * 2 ^ 28 + b.wide * 4

-- how wide a product is at most, but for one slop
abbrev product_wide : ℕ → Bounds → Bounds → ℕ
product_wide d b c = coarse b * c.wide + coarse c * b.wide

abbrev pub ratio_bounds : ℕ → ℤ → ℤ → Bounds
ratio_bounds d num den = record { size = over_up (unsigned_abs num * d) (unsigned_abs den); wide = d }

-- of a sum and of a difference
abbrev pub sum_bounds : ℕ → Bounds → Bounds → Bounds
sum_bounds d b c = record { size = b.size + c.size; wide = b.wide + c.wide + d }

abbrev pub product_bounds : ℕ → Bounds → Bounds → Bounds
product_bounds d b c = record { size = over_up (b.size * c.size) d; wide = over_up (product_wide d b c) (d * 2 ^ 28) + d }

abbrev pub multiple_bounds : ℕ → Bounds → ℤ → Bounds
multiple_bounds d b k = record { size = b.size * unsigned_abs k; wide = b.wide * unsigned_abs k + d }

abbrev pub quotient_bounds : ℕ → Bounds → ℤ → Bounds
quotient_bounds d b k = record { size = over_up b.size (unsigned_abs k); wide = over_up b.wide (unsigned_abs k) + d }

abbrev pub square_bounds : ℕ → Bounds → Bounds
square_bounds d b = product_bounds d b b

-- of the hull of two that hold the same number
abbrev pub hull_bounds : ℕ → Bounds → Bounds → Bounds
hull_bounds d b c = record { size = b.size; wide = b.wide + c.wide + d }

-- a size of which k times is at most m
size_scaled : (end : ℤ) (m k : ℕ) → neg_ℤ (pos m) ≤ℤ (pos k *ℤ end) → (pos k *ℤ end) ≤ℤ pos m → unsigned_abs end * k ≤ m
size_scaled end m k h l =
    let size : unsigned_abs (pos k *ℤ end) ≤ m = omega (arith, ints, h, l) in
    omega (arith, unsigned_abs-mul (pos k) end, size)

-- the reach is the size of one of the ends
reach-is : (low high : ℤ) → (ends.reach low high ≡ unsigned_abs low) ⊎ (ends.reach low high ≡ unsigned_abs high)
unfolding ends.reach
reach-is low high = elim (cases_lt (unsigned_abs low) (unsigned_abs high)) [ inl h ↦ inr (omega (arith, h)) | inr h ↦ inl (omega (arith, h)) ]

pub width-is : (low high : ℤ) → low ≤ℤ high → high ≡ low +ℤ pos (ends.width low high)
unfolding ends.width
width-is low high h = omega (arith, ints, h)

-- the low end times k is at most m, the high end times k at least -m
reach_scaled : (low high : ℤ) (k m : ℕ) → low ≤ℤ high → (pos k *ℤ low) ≤ℤ pos m → neg_ℤ (pos m) ≤ℤ (pos k *ℤ high) → ends.reach low high * k ≤ m + ends.width low high * k
reach_scaled low high k m order least most =
    let w = ends.width low high in
    let gap : pos k *ℤ high ≡ pos k *ℤ low +ℤ pos (w * k) =
    ap (λ z. pos k *ℤ z) (width-is low high order) ∙ Z.solve 3 (λ k l w. k ⊗ (l ⊕ w) ≐ k ⊗ l ⊕ w ⊗ k) refl (pos k) low (pos w)
    ∙ ap (λ z. pos k *ℤ low +ℤ z) (omega (arith, ints)) in
    let first : unsigned_abs low * k ≤ m + w * k = size_scaled low (m + w * k) k (omega (arith, ints, gap, most)) (omega (arith, ints, least)) in
    let second : unsigned_abs high * k ≤ m + w * k = size_scaled high (m + w * k) k (omega (arith, ints, most)) (omega (arith, ints, gap, least)) in
    elim (reach-is low high) [ inl e ↦ omega (arith, ap (λ r. r * k) e, first) | inr e ↦ omega (arith, ap (λ r. r * k) e, second) ]

-- both ends are within the reach
pub low-within : (low high : ℤ) → neg_ℤ (pos (ends.reach low high)) ≤ℤ low
unfolding ends.reach
low-within low high = omega (arith, ints)

pub high-within : (low high : ℤ) → high ≤ℤ pos (ends.reach low high)
unfolding ends.reach
high-within low high = omega (arith, ints)

module _ {A : Type 0} {n : Numbers A} (laws : Lawful n) where
  pub units : 2 ^ 28 ≤ unit n
  units = pow-le-pow_right {n = 2} (omega arith) laws.fine

  pub one_unit : 1 ≤ unit n
  one_unit = omega (arith, units)

module _ {A : Type 0} {n : Numbers A} (laws : Lawful n) (d : ℕ) (some : 1 ≤ d) where
  low-parts : {b : Bounds} {z : A} {x : ℚ} → Known n d b z x → (pos d *ℤ n.low z) ≤ℤ pos (b.size * unit n)
  unfolding ◌-ℚ◌
  low-parts {b} {z} {x} h =
      (whole-le (pos d *ℤ n.low z) (pos (b.size * unit n))).0
      (subst₂ (λ y t. y ≤ℚ t) (sym (whole-product (pos d) (n.low z))) (sym (natural-product b.size (unit n)))
      (transitive (with_factor (whole (pos d)) (number d) h.held.encloses.from)
      (at_most (above h.most *ₙ number (unit n)) (solve 4 (λ d x b u. b ⊗ u ⊖ d ⊗ (x ⊗ u) ≐ (b ⊖ d ⊗ x) ⊗ u) refl (whole (pos d)) x (whole (pos b.size)) (whole (pos (unit n)))))))

  high-parts : {b : Bounds} {z : A} {x : ℚ} → Known n d b z x → neg_ℤ (pos (b.size * unit n)) ≤ℤ (pos d *ℤ n.high z)
  unfolding ◌-ℚ◌
  high-parts {b} {z} {x} h =
      (whole-le (neg_ℤ (pos (b.size * unit n))) (pos d *ℤ n.high z)).0
      (subst₂ (λ y t. y ≤ℚ t)
      (ap opposite (sym (natural-product b.size (unit n))) ∙ sym (whole-opposite (pos (b.size * unit n)))) (sym (whole-product (pos d) (n.high z)))
      (transitive
      (at_most (above h.least *ₙ number (unit n)) (solve 4 (λ d x b u. d ⊗ (x ⊗ u) ⊖ minus (b ⊗ u) ≐ (d ⊗ x ⊖ minus b) ⊗ u) refl (whole (pos d)) x (whole (pos b.size)) (whole (pos (unit n)))))
      (with_factor (whole (pos d)) (number d) h.held.encloses.to)))

  -- the reach in parts
  reach-parts : {b : Bounds} {z : A} {x : ℚ} → Known n d b z x → reach n z * d ≤ b.size * unit n + b.wide * n.slop
  reach-parts {b} {z} {x} h =
      let m = reach_scaled (n.low z) (n.high z) d (b.size * unit n) (laws.ordered z) (low-parts h) (high-parts h) in
      omega (arith, m, h.narrow)

  -- .. of which d * 2^28 make one, at every scale
  pub known_reach : {b : Bounds} {z : A} {x : ℚ} → Known n d b z x → reach n z * (d * 2 ^ 28) ≤ coarse b * unit n
  known_reach {b} {z} {x} h =
      let slops : b.wide * n.slop ≤ b.wide * 4 = omega (arith, mul-le-mul_right b.wide laws.narrow) in
      let parts : (b.wide * n.slop) * 2 ^ 28 ≤ (b.wide * 4) * unit n = mul-le-mul slops (units laws) in
      omega (arith, reach-parts h, parts)

  -- ---- room for a call
  pub sum_room : {b c : Bounds} {z w : A} {x y : ℚ} → Known n d b z x → Known n d c w y → coarse b + coarse c ≤ 6 * (d * 2 ^ 28) → SumRoom n z w
  sum_room {b} {c} {z} {w} h k room =
      let times : (coarse b + coarse c) * unit n ≤ (6 * (d * 2 ^ 28)) * unit n = mul-le-mul_right (unit n) room in
      le_of_mul-le-mul_right {k = d * 2 ^ 28} (omega (arith, known_reach h, known_reach k, times)) (omega (arith, some))

  pub product_room : {b c : Bounds} {z w : A} {x y : ℚ} → Known n d b z x → Known n d c w y → coarse b * coarse c ≤ 6 * ((d * 2 ^ 28) * (d * 2 ^ 28)) → ProductRoom n z w
  product_room {b} {c} {z} {w} h k room =
      let times : (coarse b * coarse c) * (unit n * unit n) ≤ (6 * ((d * 2 ^ 28) * (d * 2 ^ 28))) * (unit n * unit n) = mul-le-mul_right (unit n * unit n) room in
      let both : (reach n z * (d * 2 ^ 28)) * (reach n w * (d * 2 ^ 28)) ≤ (coarse b * unit n) * (coarse c * unit n) = mul-le-mul (known_reach h) (known_reach k) in
      let square : 0 < d * d = mul-le-mul some some in
      le_of_mul-le-mul_right {k = (d * 2 ^ 28) * (d * 2 ^ 28)} (omega (arith, both, times)) (omega (arith, square))

  pub multiple_room : {b : Bounds} {z : A} {x : ℚ} (k : ℤ) → Known n d b z x → coarse b * unsigned_abs k ≤ 6 * (d * 2 ^ 28) → MultipleRoom n z k
  multiple_room {b} {z} k h room =
      let times : (coarse b * unsigned_abs k) * unit n ≤ (6 * (d * 2 ^ 28)) * unit n = mul-le-mul_right (unit n) room in
      let whole_times : (reach n z * (d * 2 ^ 28)) * unsigned_abs k ≤ (coarse b * unit n) * unsigned_abs k = mul-le-mul_right (unsigned_abs k) (known_reach h) in
      le_of_mul-le-mul_right {k = d * 2 ^ 28} (omega (arith, whole_times, times)) (omega (arith, some))

  -- one has room by a bound of its reach
  one_room : {b : Bounds} {z : A} {x : ℚ} (m : ℕ) → Known n d b z x → coarse b ≤ m * (d * 2 ^ 28) → reach n z ≤ m * unit n
  one_room {b} {z} m h room =
      let times : coarse b * unit n ≤ (m * (d * 2 ^ 28)) * unit n = mul-le-mul_right (unit n) room in
      le_of_mul-le-mul_right {k = d * 2 ^ 28} (omega (arith, known_reach h, times)) (omega (arith, some))

  pub square_room : {b : Bounds} {z : A} {x : ℚ} → Known n d b z x → coarse b ≤ 2 * (d * 2 ^ 28) → SquareRoom n z
  square_room h room = one_room 2 h room

  pub hull_room : {b c : Bounds} {z w : A} {x y : ℚ} → Known n d b z x → Known n d c w y → coarse b ≤ 6 * (d * 2 ^ 28) → coarse c ≤ 6 * (d * 2 ^ 28) → HullRoom n z w
  hull_room h k room more = record { first = one_room 6 h room; second = one_room 6 k more }

  -- ---- what is known of an answer
  parts : {b : Bounds} {z : A} {x : ℚ} → Known n d b z x → Parts d b.size x
  parts h = (h.least, h.most)

  known : {b : Bounds} {z : A} {x : ℚ} → Holds n z x → width n z * d ≤ b.wide * n.slop → Parts d b.size x → Known n d b z x
  known held narrow size = record { held = held; narrow = narrow; least = size.0; most = size.1 }

  -- wider bounds
  pub known_more : {b c : Bounds} {z : A} {x : ℚ} → Known n d b z x → b.size ≤ c.size → b.wide ≤ c.wide → Known n d c z x
  known_more {b} {c} {z} {x} h size wide =
      let times : b.wide * n.slop ≤ c.wide * n.slop = mul-le-mul_right n.slop wide in
      known h.held (omega (arith, h.narrow, times)) (parts-more d b.size c.size x (parts h) size)

  -- a size by another theorem
  pub known_smaller : (size : ℕ) {b : Bounds} {z : A} {x : ℚ} → Known n d b z x → opposite (whole (pos size)) ≤ℚ whole (pos d) *ℚ x → whole (pos d) *ℚ x ≤ℚ whole (pos size)
      → Known n d (record { size = size; wide = b.wide }) z x
  known_smaller size h least most = record { held = h.held; narrow = h.narrow; least = least; most = most }

  -- in finer parts
  pub known_finer : (k : ℕ) {b : Bounds} {z : A} {x : ℚ} → Known n d b z x → Known n (d * k) (record { size = b.size * k; wide = b.wide * k }) z x
  unfolding ◌-ℚ◌
  known_finer k {b} {z} {x} h =
      let narrow : (width n z * d) * k ≤ (b.wide * n.slop) * k = mul-le-mul_right k h.narrow in
      record {
        held = h.held;
        narrow = omega (arith, narrow);
        least = subst₂ (λ s t. opposite s ≤ℚ t *ℚ x) (sym (natural-product b.size k)) (sym (natural-product d k))
            (at_most (above h.least *ₙ number k) (solve 4 (λ d x b k. (d ⊗ k) ⊗ x ⊖ minus (b ⊗ k) ≐ (d ⊗ x ⊖ minus b) ⊗ k) refl (whole (pos d)) x (whole (pos b.size)) (whole (pos k))));
        most = subst₂ (λ s t. t *ℚ x ≤ℚ s) (sym (natural-product b.size k)) (sym (natural-product d k))
            (at_most (above h.most *ₙ number k) (solve 4 (λ d x b k. b ⊗ k ⊖ (d ⊗ k) ⊗ x ≐ (b ⊖ d ⊗ x) ⊗ k) refl (whole (pos d)) x (whole (pos b.size)) (whole (pos k))));
      }

  pub known_ratio : (num den : ℤ) → RatioRoom num den → Known n d (ratio_bounds d num den) (n.calc.ratio num den) (fraction num den)
  known_ratio num den room =
      let is = laws.ratio num den room in
      let times : width n (n.calc.ratio num den) * d ≤ n.slop * d = mul-le-mul_right d is.narrow in
      known is.held (omega (arith, times))
      (parts-ratio d (over_up (unsigned_abs num * d) (unsigned_abs den)) num den room.positive (over_up-is (unsigned_abs num * d) (unsigned_abs den) (omega (arith, ints, room.positive))))

  -- .. in bounds that are given
  pub known_ratio_at : (e : Bounds) (num den : ℤ) → RatioRoom num den → unsigned_abs num * d ≤ e.size * unsigned_abs den → d ≤ e.wide → Known n d e (n.calc.ratio num den) (fraction num den)
  known_ratio_at e num den room size wide = known_more (known_ratio num den room) (over_up-most (unsigned_abs num * d) (unsigned_abs den) e.size (omega (arith, ints, room.positive)) size) wide

  pub known_sum : {b c : Bounds} {z w : A} {x y : ℚ} → Known n d b z x → Known n d c w y → coarse b + coarse c ≤ 6 * (d * 2 ^ 28)
      → Known n d (sum_bounds d b c) (n.calc.sum z w) (x +ℚ y)
  known_sum {b} {c} {z} {w} {x} {y} h k room =
      let is = laws.sum z w (sum_room h k room) in
      let times : width n (n.calc.sum z w) * d ≤ (width n z + width n w + n.slop) * d = mul-le-mul_right d is.narrow in
      known (is.held x y h.held k.held) (omega (arith, times, h.narrow, k.narrow)) (parts-sum d b.size c.size x y (parts h) (parts k))

  pub known_difference : {b c : Bounds} {z w : A} {x y : ℚ} → Known n d b z x → Known n d c w y → coarse b + coarse c ≤ 6 * (d * 2 ^ 28)
      → Known n d (sum_bounds d b c) (n.calc.difference z w) (x -ℚ y)
  known_difference {b} {c} {z} {w} {x} {y} h k room =
      let is = laws.difference z w (sum_room h k room) in
      let times : width n (n.calc.difference z w) * d ≤ (width n z + width n w + n.slop) * d = mul-le-mul_right d is.narrow in
      known (is.held x y h.held k.held) (omega (arith, times, h.narrow, k.narrow)) (parts-difference d b.size c.size x y (parts h) (parts k))

  pub known_multiple : {b : Bounds} {z : A} {x : ℚ} (k : ℤ) → Known n d b z x → coarse b * unsigned_abs k ≤ 6 * (d * 2 ^ 28)
      → Known n d (multiple_bounds d b k) (n.calc.multiple z k) (x *ℚ whole k)
  known_multiple {b} {z} {x} k h room =
      let is = laws.multiple z k (multiple_room k h room) in
      let times : width n (n.calc.multiple z k) * d ≤ (width n z * unsigned_abs k + n.slop) * d = mul-le-mul_right d is.narrow in
      let narrow : (width n z * d) * unsigned_abs k ≤ (b.wide * n.slop) * unsigned_abs k = mul-le-mul_right (unsigned_abs k) h.narrow in
      known (is.held x h.held) (omega (arith, times, narrow)) (parts-multiple d b.size k x (parts h))

  pub known_quotient : {b : Bounds} {z : A} {x : ℚ} (k : ℤ) → Known n d b z x → pos 1 ≤ℤ k → Known n d (quotient_bounds d b k) (n.calc.quotient z k) (x /ℚ whole k)
  known_quotient {b} {z} {x} k h positive =
      let is = laws.quotient z k positive in
      let one : 1 ≤ unsigned_abs k = omega (arith, ints, positive) in
      let times : (width n (n.calc.quotient z k) * unsigned_abs k) * d ≤ (width n z + n.slop * unsigned_abs k) * d = mul-le-mul_right d is.narrow in
      let up : b.wide * n.slop ≤ (over_up b.wide (unsigned_abs k) * unsigned_abs k) * n.slop = mul-le-mul_right n.slop (over_up-is b.wide (unsigned_abs k) one) in
      known (is.held x h.held) (le_of_mul-le-mul_right {k = unsigned_abs k} (omega (arith, times, h.narrow, up)) (omega (arith, one)))
      (parts-quotient d b.size (over_up b.size (unsigned_abs k)) k x positive (parts h) (over_up-is b.size (unsigned_abs k) one))

  pub known_quotient_at : (e : Bounds) {b : Bounds} {z : A} {x : ℚ} (k : ℤ) → Known n d b z x → pos 1 ≤ℤ k
      → b.size ≤ e.size * unsigned_abs k → b.wide + d * unsigned_abs k ≤ e.wide * unsigned_abs k → Known n d e (n.calc.quotient z k) (x /ℚ whole k)
  known_quotient_at e {b} k h positive size wide =
      let one : 1 ≤ unsigned_abs k = omega (arith, ints, positive) in
      known_more (known_quotient k h positive) (over_up-most b.size (unsigned_abs k) e.size one size) (over_up-plus b.wide (unsigned_abs k) d e.wide one wide)

  -- how wide a product is, by bounds of its arguments
  product_narrow : (b c : Bounds) (v : ℕ) (z w : A) (r : ℕ) {x y : ℚ} → Known n d b z x → Known n d c w y
      → r * unit n ≤ reach n z * width n w + reach n w * width n z + n.slop * unit n
      → product_wide d b c + d * (d * 2 ^ 28) ≤ v * (d * 2 ^ 28) → r * d ≤ v * n.slop
  product_narrow b c v z w r h k narrow room =
      let first : (reach n z * (d * 2 ^ 28)) * (width n w * d) ≤ (coarse b * unit n) * (c.wide * n.slop) = mul-le-mul (known_reach h) k.narrow in
      let second : (reach n w * (d * 2 ^ 28)) * (width n z * d) ≤ (coarse c * unit n) * (b.wide * n.slop) = mul-le-mul (known_reach k) h.narrow in
      let times : (r * unit n) * (d * (d * 2 ^ 28)) ≤ (reach n z * width n w + reach n w * width n z + n.slop * unit n) * (d * (d * 2 ^ 28)) = mul-le-mul_right (d * (d * 2 ^ 28)) narrow in
      let most : (product_wide d b c + d * (d * 2 ^ 28)) * (unit n * n.slop) ≤ (v * (d * 2 ^ 28)) * (unit n * n.slop) = mul-le-mul_right (unit n * n.slop) room in
      let positive : 1 * 1 ≤ d * unit n = mul-le-mul some (one_unit laws) in
      le_of_mul-le-mul_right {k = (d * 2 ^ 28) * unit n} (omega (arith, first, second, times, most)) (omega (arith, positive))

  pub known_product_at : (e : Bounds) {b c : Bounds} {z w : A} {x y : ℚ} → Known n d b z x → Known n d c w y → coarse b * coarse c ≤ 6 * ((d * 2 ^ 28) * (d * 2 ^ 28))
      → b.size * c.size ≤ e.size * d → coarse b * c.wide + coarse c * b.wide + d * (d * 2 ^ 28) ≤ e.wide * (d * 2 ^ 28)
      → Known n d e (n.calc.product z w) (x *ℚ y)
  known_product_at e {b} {c} {z} {w} {x} {y} h k room size wide =
      let is = laws.product z w (product_room h k room) in
      known (is.held x y h.held k.held) (product_narrow b c e.wide z w (width n (n.calc.product z w)) h k is.narrow wide)
      (parts-product d b.size c.size e.size x y some (parts h) (parts k) size)

  -- a product of two bounds, rounded up, has room
  wide-room : (b c : Bounds) → product_wide d b c + d * (d * 2 ^ 28) ≤ (over_up (product_wide d b c) (d * 2 ^ 28) + d) * (d * 2 ^ 28)
  wide-room b c = let up = over_up-is (product_wide d b c) (d * 2 ^ 28) (omega (arith, some)) in omega (arith, up)

  pub known_product : {b c : Bounds} {z w : A} {x y : ℚ} → Known n d b z x → Known n d c w y → coarse b * coarse c ≤ 6 * ((d * 2 ^ 28) * (d * 2 ^ 28))
      → Known n d (product_bounds d b c) (n.calc.product z w) (x *ℚ y)
  known_product {b} {c} h k room = known_product_at (product_bounds d b c) h k room (over_up-is (b.size * c.size) d some) (wide-room b c)

  pub known_square : {b : Bounds} {z : A} {x : ℚ} → Known n d b z x → coarse b ≤ 2 * (d * 2 ^ 28) → Known n d (square_bounds d b) (n.calc.square z) (x *ℚ x)
  known_square {b} {z} {x} h room =
      let is = laws.square z (square_room h room) in
      known (is.held x h.held) (product_narrow b b (square_bounds d b).wide z z (width n (n.calc.square z)) h h (omega (arith, is.narrow)) (wide-room b b))
      (parts-product d b.size b.size (square_bounds d b).size x x some (parts h) (parts h) (over_up-is (b.size * b.size) d some))

  -- the ends of both lie on either side of a common number
  common-width : {z w : A} {x : ℚ} → Holds n z x → Holds n w x → ends.width (int_min (n.low z) (n.low w)) (int_max (n.high z) (n.high w)) ≤ width n z + width n w
  unfolding ends.width
  common-width {z} {w} p q =
      let first : n.low z ≤ℤ n.high w = (whole-le (n.low z) (n.high w)).0 (transitive p.encloses.from q.encloses.to) in
      let second : n.low w ≤ℤ n.high z = (whole-le (n.low w) (n.high z)).0 (transitive q.encloses.from p.encloses.to) in
      omega (arith, ints, clamps, first, second, laws.ordered z, laws.ordered w)

  -- the hull of two that hold the same number
  pub known_hull : {b c : Bounds} {z w : A} {x : ℚ} → Known n d b z x → Known n d c w x → coarse b ≤ 6 * (d * 2 ^ 28) → coarse c ≤ 6 * (d * 2 ^ 28)
      → Known n d (hull_bounds d b c) (n.hull z w) x
  known_hull {b} {c} {z} {w} {x} h k room more =
      let is = laws.hull z w (hull_room h k room more) in
      let common : ends.width (int_min (n.low z) (n.low w)) (int_max (n.high z) (n.high w)) ≤ width n z + width n w = common-width h.held k.held in
      let times : width n (n.hull z w) * d ≤ (width n z + width n w + n.slop) * d = mul-le-mul_right d (omega (arith, is.narrow, common)) in
      known (is.first x h.held) (omega (arith, times, h.narrow, k.narrow)) (parts h)
