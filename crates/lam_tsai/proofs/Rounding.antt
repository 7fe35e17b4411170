-- A number round its middle: how far the middle and the distances reach.
use Rattle.std.proofs.Common.{◌≡◌, refl, sym, ◌∙◌, ap, ℕ, ◌+◌, ◌-◌, ◌*◌, ◌^◌, ◌≤◌, ℤ, pos, neg_ℤ, ◌+ℤ◌, ◌-ℤ◌, ◌≤ℤ◌, ◌<ℤ◌, int_lt, true, false, Some, None, unsigned_abs, FitsSigned, w64, arith}
use Rattle.std.proofs.Math.Nat.{mul-le-mul_right, mul-le-mul, le_of_mul-le-mul_right}
use Rattle.std.proofs.lemmas.Int.{ints}
use Rattle.std.proofs.lemmas.Nat.{pow-add}
use Rattle.lam_fraction.specs.numbers.Numbers.{Numbers, Lawful, RatioRoom, MultipleRoom, reach, unit}
use Rattle.lam_fraction.specs.numbers.Ends as ends
use Rattle.lam_fraction.specs.numbers.Rounding.{floor_over}
use Rattle.lam_fraction.specs.inside.Reaches.{Reaches, sixteenths}
use Rattle.lam_fraction.proofs.numbers.EndFacts.{middle_within}
use Rattle.lam_fraction.proofs.numbers.Rooms.{reaches_ratio_at, reaches_hull}
use Rattle.lam_fraction.proofs.numbers.Steps.{one_unit, units, low-within, high-within}
use Rattle.lam_tsai.specs.declared.loaded.Loaded.{Loaded}
use Rattle.lam_tsai.specs.inside.Reach.{ReachRound}
use Rattle.lam_tsai.specs.inside.Values as by
use Rattle.lam_fraction.proofs.numbers.Tests.{both-left, both-right}
use Rattle.lam_tsai.proofs.Ordered.{below, above, is_at_most}
use Rattle.lam_tsai.proofs.Shifts.{power-small}

-- a power of two by two parts of it
pub power-parts : (k s : ℕ) → k ≤ s → 2 ^ (s - k) * 2 ^ k ≡ 2 ^ s
power-parts k s h = let whole : (s - k) + k ≡ s = omega (arith, h) in sym (pow-add 2 (s - k) k) ∙ ap (λ e. 2 ^ e) whole

-- ends within a size
pub ends-reach : (low high : ℤ) (m : ℕ) → low ≤ℤ high → neg_ℤ (pos m) ≤ℤ low → high ≤ℤ pos m → ends.reach low high ≤ m
unfolding ends.reach
ends-reach low high m h from to = omega (arith, ints, h, from, to)

module _ {A : Type 0} {n : Numbers A} (laws : Lawful n) where
  pub unit-most : unit n ≤ 2 ^ 60
  unit-most = power-small n.scale 60 laws.fits

  pub within-reach : (z : A) (m : ℕ) → by.within n z (pos m) ≡ true → reach n z ≤ m
  within-reach z m t = ends-reach (n.low z) (n.high z) m (laws.ordered z) (is_at_most (neg_ℤ (pos m)) (n.low z) (both-left _ _ t)) (is_at_most (n.high z) (pos m) (both-right _ _ t))

  -- ---- within nine eighths
  module _ (z : A) (k : ℕ) (few : k ≤ 24) (within : reach n z ≤ by.nine_eighths n k) where
    eighths : 8 * (reach n z * 2 ^ k) ≤ 9 * unit n
    eighths =
        let room : 3 + k ≤ n.scale = omega (arith, few, laws.fine) in
        let whole : 2 ^ (n.scale - k) * 2 ^ k ≡ unit n = power-parts k n.scale (omega (arith, room)) in
        let eighth : 2 ^ (n.scale - (3 + k)) * (2 ^ 3 * 2 ^ k) ≡ unit n = ap (λ t. 2 ^ (n.scale - (3 + k)) * t) (sym (pow-add 2 3 k)) ∙ power-parts (3 + k) n.scale room in
        let times : reach n z * 2 ^ k ≤ by.nine_eighths n k * 2 ^ k = mul-le-mul_right (2 ^ k) within in
        omega (arith, times, whole, eighth)

    pub stretched-room : MultipleRoom n z (pos (2 ^ k))
    stretched-room = omega (arith, eighths)

    pub stretched-reach : Reaches n (sixteenths 18 + 4) (n.calc.multiple z (pos (2 ^ k)))
    stretched-reach =
        let far = (laws.multiple z (pos (2 ^ k)) stretched-room).far in
        let slops : n.slop * 2 ^ 28 ≤ 4 * unit n = mul-le-mul laws.narrow (units laws) in
        record { far = omega (arith, far, eighths, slops) }

  -- ---- a middle
  module _ (y : A) (far : Reaches n (sixteenths 18 + 4) y) where
    abbrev pub middle : ℤ
    middle = floor_over (n.low y +ℤ n.high y) 2

    abbrev pub half : ℤ
    half = n.high y -ℤ middle

    inside : (n.low y ≤ℤ middle) × (middle ≤ℤ n.high y)
    inside = middle_within (n.low y) (n.high y) (laws.ordered y)

    middle-size : unsigned_abs middle ≤ reach n y
    middle-size = omega (arith, ints, inside.0, inside.1, low-within (n.low y) (n.high y), high-within (n.low y) (n.high y))

    pub middle-far : unsigned_abs middle * 2 ^ 28 ≤ (sixteenths 18 + 4) * unit n
    middle-far = omega (arith, middle-size, far.far)

    pub middle-room : unsigned_abs middle ≤ 2 * unit n
    middle-room = omega (arith, middle-size, far.far)

    pub half-positive : pos 0 ≤ℤ half
    half-positive = omega (arith, ints, inside.1)

    pub half-fits : FitsSigned w64 half
    half-fits = omega (arith, ints, inside.0, inside.1, low-within (n.low y) (n.high y), high-within (n.low y) (n.high y), far.far, unit-most)

    module _ (narrow : half ≤ℤ pos (2 ^ (n.scale - 4))) where
      sixteen : 2 ^ (n.scale - 4) * 2 ^ 4 ≡ unit n
      sixteen = power-parts 4 n.scale (omega (arith, laws.fine))

      pub half-far : unsigned_abs half * 2 ^ 28 ≤ sixteenths 1 * unit n
      half-far = let size : unsigned_abs half ≤ 2 ^ (n.scale - 4) = omega (arith, ints, half-positive, narrow) in omega (arith, size, sixteen)

      pub half-room : unsigned_abs half ≤ 2 * unit n
      half-room = omega (arith, half-far)

  -- ---- parts of which U make one
  module _ (m : ℤ) (small : unsigned_abs m ≤ 2 * unit n) where
    pub parts-room : RatioRoom m (pos (unit n))
    parts-room = record {
      positive = omega (arith, ints, one_unit laws);
      den = omega (arith, ints, unit-most);
      num = omega (arith, ints, unit-most, small);
      room = omega (arith, ints, small);
    }

    pub parts-reach : reach n (n.calc.ratio m (pos (unit n))) ≤ 6 * unit n
    parts-reach =
        let far : reach n (n.calc.ratio m (pos (unit n))) * unit n ≤ (unsigned_abs m + n.slop) * unit n = omega (arith, (laws.ratio m (pos (unit n)) parts-room).far) in
        let near : reach n (n.calc.ratio m (pos (unit n))) ≤ unsigned_abs m + n.slop = le_of_mul-le-mul_right {k = unit n} far (omega (arith, one_unit laws)) in
        let parts : n.slop ≤ 4 * unit n = omega (arith, laws.narrow, one_unit laws) in
        omega (arith, near, small, parts)

  opposite-size : (m : ℤ) → unsigned_abs (neg_ℤ m) ≡ unsigned_abs m
  opposite-size m = omega (arith, ints)

  pub reach-round : (m h : ℤ) → unsigned_abs m * 2 ^ 28 ≤ (sixteenths 18 + 4) * unit n → unsigned_abs h * 2 ^ 28 ≤ sixteenths 1 * unit n → ReachRound n (by.round n m h)
  reach-round m h far near =
      let small : unsigned_abs h ≤ 2 * unit n = omega (arith, near) in
      let up = reaches_ratio_at laws (sixteenths 1) h (pos (unit n)) (parts-room h small) near in
      let down = reaches_ratio_at laws (sixteenths 1) (neg_ℤ h) (pos (unit n)) (parts-room (neg_ℤ h) (omega (arith, opposite-size h, small))) (omega (arith, opposite-size h, near)) in
      record {
        middle = reaches_ratio_at laws (sixteenths 18 + 4) m (pos (unit n)) (parts-room m (omega (arith, far))) far;
        spread = reaches_hull laws up down (omega arith) (omega arith);
      }

-- ---- which case it is
module _ {A : Type 0} (n : Numbers A) where
  pub narrow-wide : (m h : ℤ) → pos (2 ^ (n.scale - 4)) <ℤ h → None ≡ by.narrow n m h
  narrow-wide m h wide = let test : int_lt (pos (2 ^ (n.scale - 4))) h ≡ true = below (pos (2 ^ (n.scale - 4))) h wide in rw test refl

  pub narrow-fine : (m h : ℤ) → h ≤ℤ pos (2 ^ (n.scale - 4)) → Some (by.round n m h) ≡ by.narrow n m h
  narrow-fine m h fine = let test : int_lt (pos (2 ^ (n.scale - 4))) h ≡ false = above (pos (2 ^ (n.scale - 4))) h fine in rw test refl

  pub rounded-wide : (z : Loaded A) → by.within n z.value (pos (by.nine_eighths n z.shift)) ≡ false → None ≡ by.rounded n z
  rounded-wide z e = rw e refl

  pub rounded-fine : (z : Loaded A) → by.within n z.value (pos (by.nine_eighths n z.shift)) ≡ true → by.stretched n (n.calc.multiple z.value (pos (2 ^ z.shift))) ≡ by.rounded n z
  rounded-fine z e = rw e refl
