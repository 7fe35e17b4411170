-- One kind of enclosure: its scale, its ends and its operations; and what each operation promises.
-- U is two to the power of the scale. A slop is one part of U; an answer is at most so many slops wider than exact ends.
use Rattle.std.specs.Prelude.{ℕ, ◌+◌, ◌*◌, ◌^◌, ◌≤◌, ◌⊎◌, max, ℤ, pos, neg_ℤ, ◌-ℤ◌, ◌*ℤ◌, ◌≤ℤ◌, ◌<ℤ◌, unsigned_abs}
use Rattle.std.specs.Int.{int_min, int_max}
use Rattle.lam_fraction.specs.Fraction.{ℚ, whole, fraction, ◌+ℚ◌, ◌-ℚ◌, ◌*ℚ◌, ◌/ℚ◌, ◌≤ℚ◌}
use Rattle.lam_fraction.specs.numbers.Arithmetic.{Arithmetic}
use Rattle.lam_fraction.specs.numbers.Encloses.{Encloses}
use Rattle.lam_fraction.specs.numbers.Ends as ends

pub record Numbers (A : Type 0) : Type 0 where
  pub scale : ℕ
  pub slop : ℕ
  pub low : A → ℤ
  pub high : A → ℤ
  pub calc : Arithmetic A
  -- from about 0 to above each root of what is held
  pub root : A → A
  pub hull : A → A → A

abbrev pub unit : {A : Type 0} → Numbers A → ℕ
unit n = 2 ^ n.scale

-- the greater size of the two ends
abbrev pub reach : {A : Type 0} → Numbers A → A → ℕ
reach n z = ends.reach (n.low z) (n.high z)

-- the distance of the two ends
abbrev pub width : {A : Type 0} → Numbers A → A → ℕ
width n z = ends.width (n.low z) (n.high z)

-- the enclosure holds x
pub record Holds {A : Type 0} (n : Numbers A) (z : A) (x : ℚ) : Type 0 where
  pub encloses : Encloses n.scale (n.low z) (n.high z) x

-- ---- where a call has room

pub record RatioRoom (k d : ℤ) : Type 0 where
  pub positive : pos 0 <ℤ d
  pub den : unsigned_abs d ≤ 2 ^ 66
  pub num : unsigned_abs k ≤ 2 ^ 66
  pub room : unsigned_abs k ≤ 6 * unsigned_abs d

-- of a sum and of a difference
abbrev pub SumRoom : {A : Type 0} → Numbers A → A → A → Type 0
SumRoom n z w = reach n z + reach n w ≤ 6 * unit n

abbrev pub ProductRoom : {A : Type 0} → Numbers A → A → A → Type 0
ProductRoom n z w = reach n z * reach n w ≤ 6 * (unit n * unit n)

abbrev pub MultipleRoom : {A : Type 0} → Numbers A → A → ℤ → Type 0
MultipleRoom n z k = reach n z * unsigned_abs k ≤ 6 * unit n

abbrev pub SquareRoom : {A : Type 0} → Numbers A → A → Type 0
SquareRoom n z = reach n z ≤ 2 * unit n

pub record RootRoom {A : Type 0} (n : Numbers A) (z : A) : Type 0 where
  pub sign : pos 0 ≤ℤ n.high z
  pub room : n.high z ≤ℤ pos (6 * unit n)

pub record HullRoom {A : Type 0} (n : Numbers A) (z w : A) : Type 0 where
  pub first : reach n z ≤ 6 * unit n
  pub second : reach n w ≤ 6 * unit n

-- ---- what an answer r holds, how wide it is, and how far it reaches

pub record IsRatio {A : Type 0} (n : Numbers A) (k d : ℤ) (r : A) : Type 0 where
  pub held : Holds n r (fraction k d)
  pub narrow : width n r ≤ n.slop
  pub far : reach n r * unsigned_abs d ≤ unsigned_abs k * unit n + n.slop * unsigned_abs d

pub record IsSum {A : Type 0} (n : Numbers A) (z w r : A) : Type 0 where
  pub held : (x y : ℚ) → Holds n z x → Holds n w y → Holds n r (x +ℚ y)
  pub narrow : width n r ≤ width n z + width n w + n.slop
  pub far : reach n r ≤ reach n z + reach n w + n.slop

pub record IsDifference {A : Type 0} (n : Numbers A) (z w r : A) : Type 0 where
  pub held : (x y : ℚ) → Holds n z x → Holds n w y → Holds n r (x -ℚ y)
  pub narrow : width n r ≤ width n z + width n w + n.slop
  pub far : reach n r ≤ reach n z + reach n w + n.slop

pub record IsProduct {A : Type 0} (n : Numbers A) (z w r : A) : Type 0 where
  pub held : (x y : ℚ) → Holds n z x → Holds n w y → Holds n r (x *ℚ y)
  pub narrow : width n r * unit n ≤ reach n z * width n w + reach n w * width n z + n.slop * unit n
  pub far : reach n r * unit n ≤ reach n z * reach n w + n.slop * unit n

pub record IsMultiple {A : Type 0} (n : Numbers A) (z : A) (k : ℤ) (r : A) : Type 0 where
  pub held : (x : ℚ) → Holds n z x → Holds n r (x *ℚ whole k)
  pub narrow : width n r ≤ width n z * unsigned_abs k + n.slop
  pub far : reach n r ≤ reach n z * unsigned_abs k + n.slop

pub record IsQuotient {A : Type 0} (n : Numbers A) (z : A) (k : ℤ) (r : A) : Type 0 where
  pub held : (x : ℚ) → Holds n z x → Holds n r (x /ℚ whole k)
  pub narrow : width n r * unsigned_abs k ≤ width n z + n.slop * unsigned_abs k
  pub far : reach n r * unsigned_abs k ≤ reach n z + n.slop * unsigned_abs k

pub record IsSquare {A : Type 0} (n : Numbers A) (z r : A) : Type 0 where
  pub held : (x : ℚ) → Holds n z x → Holds n r (x *ℚ x)
  pub narrow : width n r * unit n ≤ 2 * (reach n z * width n z) + n.slop * unit n
  pub far : reach n r * unit n ≤ reach n z * reach n z + n.slop * unit n

-- it has no width of its own: its low end is about 0, and its high end about the root of the argument's
pub record IsRoot {A : Type 0} (n : Numbers A) (z r : A) : Type 0 where
  pub held : (x : ℚ) → whole (pos 0) ≤ℚ x → Holds n z (x *ℚ x) → Holds n r x
  pub least : neg_ℤ (pos n.slop) ≤ℤ n.low r
  pub low : n.low r ≤ℤ pos 0
  pub high : (n.high r ≤ℤ pos n.slop) ⊎ (((n.high r -ℤ pos n.slop) *ℤ (n.high r -ℤ pos n.slop)) <ℤ (n.high z *ℤ pos (unit n)))

pub record IsHull {A : Type 0} (n : Numbers A) (z w r : A) : Type 0 where
  pub first : (x : ℚ) → Holds n z x → Holds n r x
  pub second : (x : ℚ) → Holds n w x → Holds n r x
  pub narrow : width n r ≤ ends.width (int_min (n.low z) (n.low w)) (int_max (n.high z) (n.high w)) + n.slop
  pub far : reach n r ≤ max (reach n z) (reach n w) + n.slop

-- ---- all of it: what every kind of enclosure keeps

pub record Lawful {A : Type 0} (n : Numbers A) : Type 0 where
  pub fine : 28 ≤ n.scale
  pub fits : n.scale ≤ 60
  pub wide : 1 ≤ n.slop
  pub narrow : n.slop ≤ 4
  pub ordered : (z : A) → n.low z ≤ℤ n.high z
  pub ratio : (k d : ℤ) → RatioRoom k d → IsRatio n k d (n.calc.ratio k d)
  pub sum : (z w : A) → SumRoom n z w → IsSum n z w (n.calc.sum z w)
  pub difference : (z w : A) → SumRoom n z w → IsDifference n z w (n.calc.difference z w)
  pub product : (z w : A) → ProductRoom n z w → IsProduct n z w (n.calc.product z w)
  pub multiple : (z : A) (k : ℤ) → MultipleRoom n z k → IsMultiple n z k (n.calc.multiple z k)
  pub quotient : (z : A) (k : ℤ) → pos 1 ≤ℤ k → IsQuotient n z k (n.calc.quotient z k)
  pub square : (z : A) → SquareRoom n z → IsSquare n z (n.calc.square z)
  pub root : (z : A) → RootRoom n z → IsRoot n z (n.root z)
  pub hull : (z w : A) → HullRoom n z w → IsHull n z w (n.hull z w)
