-- Of the formulas' middles and radii: that they are balls, how wide they are, how far they reach, and what lies in them.
use Rattle.std.proofs.Common.{◌≡◌, refl, sym, ap, ap₂, ◌∙◌, subst, subst₂, inl, inr, ℕ, zero, suc, ◌+◌, ◌*◌, ◌/◌, ◌^◌, ◌<◌, ◌≤◌, ◌⊎◌, max, arith, ℤ, pos, negsuc, ◌+ℤ◌, ◌-ℤ◌, ◌*ℤ◌, ◌≤ℤ◌, ◌<ℤ◌, unsigned_abs, div-add-mod', mod-lt}
use Rattle.std.proofs.lemmas.Bool.{cases_lt}
use Rattle.std.proofs.lemmas.Int.{ints, clamps, unsigned_abs-mul}
use Rattle.std.proofs.lemmas.Nat.{mul-le}
use Rattle.std.proofs.Math.Nat.{le_of_mul-le-mul_right}
use Rattle.std.specs.Int.{int_min, int_max}
use Rattle.lam_fraction.specs.inside.FixedEnds.{product_centre, product_spread, product_low, product_high, ratio_low, ratio_high}
use Rattle.lam_fraction.specs.numbers.Ends.{reach, width}
use Rattle.lam_fraction.specs.numbers.Rounding.{floor_over, ceil_over, root_floor}
use Rattle.lam_fraction.proofs.Laws.{integers, ordered_integers}
use Rattle.lam_fraction.proofs.Expression.{int, ◌⊕◌, ◌⊖◌, ◌⊗◌}
use Rattle.lam_fraction.proofs.Order as Order
use Rattle.lam_fraction.proofs.Solver as Solver
use Rattle.lam_fraction.proofs.Solver.{◌≐◌}
use Rattle.lam_fraction.proofs.numbers.EndFacts.{half_at_most, half_near}
use Rattle.lam_fraction.proofs.numbers.Rounded.{floor-at_most, floor-near, ceil-at_least, ceil-near, floor-size, ceil-size, root_floor-is}
use Rattle.lam_number.specs.declared.ball.Ball.{Ball}
use Rattle.lam_number.specs.inside.BallNumbers.{farthest, ball_of, spread, product_middle, product_radius, quotient_radius, half_root}

-- ---- balls
pub record IsBall (m r : ℤ) : Type 0 where
  pub positive : pos 0 ≤ℤ r
  pub bounded : unsigned_abs m + unsigned_abs r ≤ farthest

pub middle-is : (m r : ℤ) → IsBall m r → (ball_of m r).middle ≡ m
unfolding ball_of
middle-is m r h = omega (arith, ints, clamps, h.positive, h.bounded)

pub radius-is : (m r : ℤ) → IsBall m r → (ball_of m r).radius ≡ r
unfolding ball_of
radius-is m r h = omega (arith, ints, clamps, h.positive, h.bounded)

pub reach-is : (m r : ℤ) → pos 0 ≤ℤ r → reach (m -ℤ r) (m +ℤ r) ≡ unsigned_abs m + unsigned_abs r
unfolding reach
reach-is m r h = omega (arith, ints, h)

pub width-is : (m r : ℤ) → pos 0 ≤ℤ r → width (m -ℤ r) (m +ℤ r) ≡ 2 * unsigned_abs r
unfolding width
width-is m r h = omega (arith, ints, h)

pub is-ball : (m r : ℤ) → pos 0 ≤ℤ r → unsigned_abs m + unsigned_abs r ≤ farthest → IsBall m r
is-ball m r h k = record { positive = h; bounded = k }

-- ---- rounding
scaled_gap : (f c n : ℤ) → (c -ℤ f) *ℤ n ≡ c *ℤ n -ℤ f *ℤ n
scaled_gap = Solver.solve integers 3 (λ f c n. (c ⊖ f) ⊗ n ≐ c ⊗ n ⊖ f ⊗ n) refl

scaled_sum : (f c n : ℤ) → (c +ℤ f) *ℤ n ≡ c *ℤ n +ℤ f *ℤ n
scaled_sum = Solver.solve integers 3 (λ f c n. (c ⊕ f) ⊗ n ≐ c ⊗ n ⊕ f ⊗ n) refl

-- a number of n's that is below one more than another
below_next : (a b : ℤ) (n : ℕ) → 0 < n → (a *ℤ pos n) <ℤ (b *ℤ pos n +ℤ pos n) → a ≤ℤ b
below_next a b n p h =
    let positive : pos 0 <ℤ pos n = omega (arith, ints, p) in
    let one : pos 1 *ℤ pos n ≡ pos n = omega (arith, ints) in
    let next : (a *ℤ pos n) <ℤ ((b +ℤ pos 1) *ℤ pos n) = omega (arith, ints, h, one, scaled_sum (pos 1) b (pos n)) in
    let less : a <ℤ (b +ℤ pos 1) =
    Order.below_over ordered_integers positive (Order.strictly_above ordered_integers next) (Solver.solve integers 3 (λ a b n. n ⊗ (b ⊖ a) ≐ b ⊗ n ⊖ a ⊗ n) refl a (b +ℤ pos 1) (pos n)) in
    omega (arith, ints, less)

pub floor-greatest : (t z : ℤ) (n : ℕ) → 0 < n → (t *ℤ pos n) ≤ℤ z → t ≤ℤ floor_over z n
floor-greatest t z n p h = below_next t (floor_over z n) n p (omega (arith, ints, h, floor-near z n p))

pub ceil-least : (t z : ℤ) (n : ℕ) → 0 < n → z ≤ℤ (t *ℤ pos n) → ceil_over z n ≤ℤ t
ceil-least t z n p h = below_next (ceil_over z n) t n p (omega (arith, ints, h, ceil-near z n p))

unit_positive : 0 < 2 ^ 60
unit_positive = omega arith

-- ---- ratios
pub ratio-size : (num den : ℤ) → pos 0 <ℤ den → unsigned_abs (ratio_low 60 num den) * unsigned_abs den ≤ unsigned_abs num * 2 ^ 60 + unsigned_abs den
unfolding ratio_low
ratio-size num den p =
    let some : 0 < unsigned_abs den = omega (arith, ints, p) in
    omega (arith, floor-size (num *ℤ pos (2 ^ 60)) (unsigned_abs den) some, unsigned_abs-mul num (pos (2 ^ 60)))

pub ratio-ball : (num den : ℤ) → pos 0 <ℤ den → unsigned_abs num ≤ 6 * unsigned_abs den → IsBall (ratio_low 60 num den) (pos 1)
ratio-ball num den p room =
    let some : 0 < unsigned_abs den = omega (arith, ints, p) in
    let bound : unsigned_abs (ratio_low 60 num den) * unsigned_abs den ≤ (6 * 2 ^ 60 + 1) * unsigned_abs den = omega (arith, ratio-size num den p, room) in
    let size : unsigned_abs (ratio_low 60 num den) ≤ 6 * 2 ^ 60 + 1 = le_of_mul-le-mul_right bound some in
    is-ball _ _ (omega (arith, ints)) (omega (arith, size))

-- rounded up is at most one above rounded down
pub ratio-next : (num den : ℤ) → pos 0 <ℤ den → ratio_high 60 num den ≤ℤ (ratio_low 60 num den +ℤ pos 1)
unfolding ratio_low ratio_high
ratio-next num den p =
    let n = unsigned_abs den in
    let z = num *ℤ pos (2 ^ 60) in
    let some : 0 < n = omega (arith, ints, p) in
    let one : pos 1 *ℤ pos n ≡ pos n = omega (arith, ints) in
    ceil-least (floor_over z n +ℤ pos 1) z n some (omega (arith, ints, floor-near z n some, one, scaled_sum (pos 1) (floor_over z n) (pos n)))

-- ---- sums and differences
pub sum-ball : (m r m' r' : ℤ) → pos 0 ≤ℤ r → pos 0 ≤ℤ r' → reach (m -ℤ r) (m +ℤ r) + reach (m' -ℤ r') (m' +ℤ r') ≤ 6 * 2 ^ 60 → IsBall (m +ℤ m') (r +ℤ r')
sum-ball m r m' r' h h' room = is-ball _ _ (omega (arith, ints, h, h')) (omega (arith, ints, h, h', room, reach-is m r h, reach-is m' r' h'))

pub difference-ball : (m r m' r' : ℤ) → pos 0 ≤ℤ r → pos 0 ≤ℤ r' → reach (m -ℤ r) (m +ℤ r) + reach (m' -ℤ r') (m' +ℤ r') ≤ 6 * 2 ^ 60 → IsBall (m -ℤ m') (r +ℤ r')
difference-ball m r m' r' h h' room = is-ball _ _ (omega (arith, ints, h, h')) (omega (arith, ints, h, h', room, reach-is m r h, reach-is m' r' h'))

-- ---- products
-- the product of the reaches is what the product of the middles and the spread make
pub spread-reach : (x y : Ball) → unsigned_abs (x.middle *ℤ y.middle) + spread x y ≡ reach (x.middle -ℤ x.radius) (x.middle +ℤ x.radius) * reach (y.middle -ℤ y.radius) (y.middle +ℤ y.radius)
unfolding spread
spread-reach x y =
    let m = unsigned_abs x.middle in
    let r = unsigned_abs x.radius in
    let n = unsigned_abs y.middle in
    let t = unsigned_abs y.radius in
    let parts : unsigned_abs (x.middle *ℤ y.middle) + (m * t + r * (n + t)) ≡ (m + r) * (n + t) = omega (arith, unsigned_abs-mul x.middle y.middle) in
    parts ∙ ap₂ ◌*◌ (sym (reach-is x.middle x.radius x.positive)) (sym (reach-is y.middle y.radius y.positive))

pub middle-size : (x y : Ball) → unsigned_abs (product_middle x y) * 2 ^ 60 ≤ unsigned_abs (x.middle *ℤ y.middle) + 2 ^ 60
middle-size x y = floor-size (x.middle *ℤ y.middle) (2 ^ 60) unit_positive

pub radius-size : (x y : Ball) → unsigned_abs (product_radius x y) * 2 ^ 60 ≤ spread x y + 2 * 2 ^ 60
radius-size x y = omega (arith, ints, ceil-near (pos (spread x y)) (2 ^ 60) unit_positive, ceil-at_least (pos (spread x y)) (2 ^ 60) unit_positive)

radius-above : (x y : Ball) → pos 1 ≤ℤ product_radius x y
radius-above x y = omega (arith, ints, ceil-at_least (pos (spread x y)) (2 ^ 60) unit_positive)

pub product-ball : (x y : Ball) → reach (x.middle -ℤ x.radius) (x.middle +ℤ x.radius) * reach (y.middle -ℤ y.radius) (y.middle +ℤ y.radius) ≤ 6 * (2 ^ 60 * 2 ^ 60) → IsBall (product_middle x y) (product_radius x y)
product-ball x y room =
    is-ball _ _ (omega (arith, ints, radius-above x y))
    (omega (arith, room, spread-reach x y, middle-size x y, radius-size x y))

pub square-room : (n : ℕ) → n ≤ 2 * 2 ^ 60 → n * n ≤ 6 * (2 ^ 60 * 2 ^ 60)
square-room n h = omega (arith, mul-le n n (2 * 2 ^ 60) (2 * 2 ^ 60) h h)

-- twice the spread is at most what the reaches and the widths make
pub spread-width : (x y : Ball) → 2 * spread x y ≤ reach (x.middle -ℤ x.radius) (x.middle +ℤ x.radius) * width (y.middle -ℤ y.radius) (y.middle +ℤ y.radius) + reach (y.middle -ℤ y.radius) (y.middle +ℤ y.radius) * width (x.middle -ℤ x.radius) (x.middle +ℤ x.radius)
unfolding spread
spread-width x y =
    let m = unsigned_abs x.middle in
    let r = unsigned_abs x.radius in
    let n = unsigned_abs y.middle in
    let t = unsigned_abs y.radius in
    let parts : 2 * (m * t + r * (n + t)) ≤ (m + r) * (2 * t) + (n + t) * (2 * r) = omega arith in
    let first = ap₂ ◌*◌ (reach-is x.middle x.radius x.positive) (width-is y.middle y.radius y.positive) in
    let second = ap₂ ◌*◌ (reach-is y.middle y.radius y.positive) (width-is x.middle x.radius x.positive) in
    subst₂ (λ a b. 2 * (m * t + r * (n + t)) ≤ a + b) (sym first) (sym second) parts

-- the ends that are taken round the doubled middles lie in the ball
centre-is : (x y : Ball) → product_centre (x.middle -ℤ x.radius) (x.middle +ℤ x.radius) (y.middle -ℤ y.radius) (y.middle +ℤ y.radius) ≡ pos 4 *ℤ (x.middle *ℤ y.middle)
unfolding product_centre
centre-is x y = Solver.solve integers 4 (λ m r n t. ((m ⊖ r) ⊕ (m ⊕ r)) ⊗ ((n ⊖ t) ⊕ (n ⊕ t)) ≐ int (pos 4) ⊗ (m ⊗ n)) refl x.middle x.radius y.middle y.radius

doubled : (m r : ℤ) → unsigned_abs ((m -ℤ r) +ℤ (m +ℤ r)) ≡ 2 * unsigned_abs m
doubled m r = omega (arith, ints)

spread-is : (x y : Ball) → product_spread (x.middle -ℤ x.radius) (x.middle +ℤ x.radius) (y.middle -ℤ y.radius) (y.middle +ℤ y.radius) ≡ 4 * spread x y
unfolding product_spread spread
spread-is x y = rw (doubled x.middle x.radius, doubled y.middle y.radius, width-is x.middle x.radius x.positive, width-is y.middle y.radius y.positive) (omega arith)

pub product-low : (x y : Ball) → (product_middle x y -ℤ product_radius x y) ≤ℤ product_low 60 (x.middle -ℤ x.radius) (x.middle +ℤ x.radius) (y.middle -ℤ y.radius) (y.middle +ℤ y.radius)
unfolding product_low
product-low x y =
    let z = product_centre (x.middle -ℤ x.radius) (x.middle +ℤ x.radius) (y.middle -ℤ y.radius) (y.middle +ℤ y.radius) -ℤ pos (product_spread (x.middle -ℤ x.radius) (x.middle +ℤ x.radius) (y.middle -ℤ y.radius) (y.middle +ℤ y.radius)) in
    let some : 0 < 2 ^ 62 = omega arith in
    omega (
      arith,
      ints,
      centre-is x y,
      spread-is x y,
      floor-near z (2 ^ 62) some,
      floor-at_most (x.middle *ℤ y.middle) (2 ^ 60) unit_positive,
      ceil-at_least (pos (spread x y)) (2 ^ 60) unit_positive,
    )

pub product-high : (x y : Ball) → product_high 60 (x.middle -ℤ x.radius) (x.middle +ℤ x.radius) (y.middle -ℤ y.radius) (y.middle +ℤ y.radius) ≤ℤ (product_middle x y +ℤ product_radius x y)
unfolding product_high
product-high x y =
    let z = product_centre (x.middle -ℤ x.radius) (x.middle +ℤ x.radius) (y.middle -ℤ y.radius) (y.middle +ℤ y.radius) +ℤ pos (product_spread (x.middle -ℤ x.radius) (x.middle +ℤ x.radius) (y.middle -ℤ y.radius) (y.middle +ℤ y.radius)) in
    let some : 0 < 2 ^ 62 = omega arith in
    omega (
      arith,
      ints,
      centre-is x y,
      spread-is x y,
      ceil-near z (2 ^ 62) some,
      floor-near (x.middle *ℤ y.middle) (2 ^ 60) unit_positive,
      ceil-at_least (pos (spread x y)) (2 ^ 60) unit_positive,
    )

-- ---- multiples
times-sum : (m r k : ℤ) → (m +ℤ r) *ℤ k ≡ m *ℤ k +ℤ r *ℤ k
times-sum m r k = scaled_sum r m k

pub multiple-ball : (m r k : ℤ) → pos 0 ≤ℤ r → reach (m -ℤ r) (m +ℤ r) * unsigned_abs k ≤ 6 * 2 ^ 60 → IsBall (m *ℤ k) (pos (unsigned_abs (r *ℤ k)))
multiple-ball m r k h room =
    is-ball _ _ (omega (arith, ints))
    (omega (arith, ints, room, unsigned_abs-mul m k, unsigned_abs-mul r k, ap (λ n. n * unsigned_abs k) (reach-is m r h)))

pub multiple-low : (m r k : ℤ) → (m *ℤ k -ℤ pos (unsigned_abs (r *ℤ k))) ≤ℤ int_min ((m -ℤ r) *ℤ k) ((m +ℤ r) *ℤ k)
multiple-low m r k = omega (arith, ints, clamps, scaled_gap r m k, times-sum m r k)

pub multiple-high : (m r k : ℤ) → int_max ((m -ℤ r) *ℤ k) ((m +ℤ r) *ℤ k) ≤ℤ (m *ℤ k +ℤ pos (unsigned_abs (r *ℤ k)))
multiple-high m r k = omega (arith, ints, clamps, scaled_gap r m k, times-sum m r k)

-- ---- quotients
-- what a quotient that is rounded down leaves, with the radius, over n, rounded up
module _ (m r : ℤ) (n : ℕ) (some : 0 < n) (h : pos 0 ≤ℤ r) where
  abbrev pub q : ℤ
  q = floor_over m n

  abbrev pub rest : ℤ
  rest = m -ℤ q *ℤ pos n

  abbrev pub more : ℤ
  more = ceil_over (rest +ℤ r) n

  pub rest-least : pos 0 ≤ℤ rest
  rest-least = omega (arith, ints, floor-at_most m n some)

  pub rest-most : rest <ℤ pos n
  rest-most = omega (arith, ints, floor-near m n some)

  pub more-least : pos 0 ≤ℤ more
  more-least = below_next (pos 0) more n some (omega (arith, ints, h, rest-least, ceil-at_least (rest +ℤ r) n some))

  pub more-size : unsigned_abs more * n ≤ unsigned_abs r + 2 * n
  more-size = omega (arith, ints, h, rest-least, rest-most, ceil-size (rest +ℤ r) n some)

  pub lower : (q -ℤ more) ≤ℤ floor_over (m -ℤ r) n
  lower = floor-greatest (q -ℤ more) (m -ℤ r) n some (omega (arith, ints, scaled_gap more q (pos n), rest-least, ceil-at_least (rest +ℤ r) n some))

  pub higher : ceil_over (m +ℤ r) n ≤ℤ (q +ℤ more)
  higher = ceil-least (q +ℤ more) (m +ℤ r) n some (omega (arith, ints, scaled_sum more q (pos n), ceil-at_least (rest +ℤ r) n some))

-- the sum of a quotient's size and its radius, for a divisor of two at least
halved : (a b n : ℕ) → 2 ≤ n → a * n ≤ b + 3 * n → b ≤ 7 * 2 ^ 60 → a ≤ 7 * 2 ^ 60
halved a b n two h k = elim (cases_lt (7 * 2 ^ 60) a) [
  | inl much ↦ (let more : (7 * 2 ^ 60 + 1) * n ≤ a * n = mul-le _ _ _ _ (omega (arith, much)) (omega arith) in absurd (omega (arith, more, h, k, two)))
  | inr most ↦ most
]

pub quotient-ball : (m r k : ℤ) → pos 0 ≤ℤ r → unsigned_abs m + unsigned_abs r ≤ farthest → pos 1 ≤ℤ k → IsBall (floor_over m (unsigned_abs k)) (quotient_radius m r k (floor_over m (unsigned_abs k)))
quotient-ball m r (pos zero) h room p = absurd (omega (arith, ints, p))
quotient-ball m r (pos (suc zero)) h room p =
    let some : 0 < 1 = omega arith in
    let least = more-least m r 1 some h in
    is-ball _ _ least (omega (arith, ints, room, h, least, floor-at_most m 1 some, floor-near m 1 some, ceil-near (m -ℤ floor_over m 1 *ℤ pos 1 +ℤ r) 1 some))
quotient-ball m r (pos (suc (suc j))) h room p =
    let n = suc (suc j) in
    let some : 0 < n = omega arith in
    is-ball _ _ (more-least m r n some h)
    (halved _ _ n (omega arith) (omega (arith, more-size m r n some h, floor-size m n some)) room)
quotient-ball m r (negsuc j) h room p = absurd (omega (arith, ints, p))

-- ---- roots
-- half of a number and two, rounded down
pub half-of : (s : ℕ) → (s + 1 ≤ 2 * ((s + 2) / 2)) × (2 * ((s + 2) / 2) ≤ s + 2)
half-of s =
    let some : 0 < 2 = omega arith in
    (omega (arith, div-add-mod' (s + 2) 2, mod-lt (s + 2) some), omega (arith, div-add-mod' (s + 2) 2, mod-lt (s + 2) some))

root-within : (r n u : ℕ) → r * r ≤ n → n ≤ 6 * u * u → r ≤ 3 * u
root-within r n u square room = elim (cases_lt (3 * u) r) [
  | inl much ↦ (let more : (3 * u + 1) * (3 * u + 1) ≤ r * r = mul-le _ _ _ _ (omega (arith, much)) (omega (arith, much)) in absurd (omega (arith, more, square, room)))
  | inr most ↦ most
]

pub root-ball : (high : ℤ) → pos 0 ≤ℤ high → high ≤ℤ pos (6 * 2 ^ 60) → IsBall (pos (half_root high)) (pos (half_root high))
root-ball high sign room =
    let n = unsigned_abs high * 2 ^ 60 in
    let s = root_floor n in
    let small : s ≤ 3 * 2 ^ 60 = root-within s n (2 ^ 60) (root_floor-is n).square (omega (arith, ints, sign, room)) in
    is-ball _ _ (omega (arith, ints)) (omega (arith, (half-of s).1, small))

-- twice the half: at most four, or its square less four is below the number
near-root : (s n c : ℕ) → s * s ≤ n → 2 * c ≤ s + 2 → (pos (c + c) ≤ℤ pos 4) ⊎ (((pos (c + c) -ℤ pos 4) *ℤ (pos (c + c) -ℤ pos 4)) <ℤ pos n)
near-root s n zero square most = inl (omega (arith, ints))
near-root s n (suc zero) square most = inl (omega (arith, ints))
near-root s n (suc (suc c)) square most =
    let d = c + c in
    let e : pos (suc (suc c) + suc (suc c)) -ℤ pos 4 ≡ pos d = omega (arith, ints) in
    let less : d + 1 ≤ s = omega (arith, most) in
    let more : (d + 1) * (d + 1) ≤ s * s = mul-le _ _ _ _ less less in
    let below : (pos d *ℤ pos d) <ℤ pos n = omega (arith, ints, more, square) in
    inr (subst (λ z. (z *ℤ z) <ℤ pos n) (sym e) below)

pub root-high : (high : ℤ) → pos 0 ≤ℤ high → let end = pos (half_root high) +ℤ pos (half_root high) in
    (end ≤ℤ pos 4) ⊎ (((end -ℤ pos 4) *ℤ (end -ℤ pos 4)) <ℤ (high *ℤ pos (2 ^ 60)))
root-high high h =
    let n = unsigned_abs high * 2 ^ 60 in
    let product : pos n ≡ high *ℤ pos (2 ^ 60) = omega (arith, ints, h) in
    let c = half_root high in
    subst (λ z. (pos (c + c) ≤ℤ pos 4) ⊎ (((pos (c + c) -ℤ pos 4) *ℤ (pos (c + c) -ℤ pos 4)) <ℤ z)) product
    (near-root (root_floor n) n c (root_floor-is n).square (half-of (root_floor n)).1)

-- ---- hulls
pub hull-ball : (low high : ℤ) → low ≤ℤ high → reach low high ≤ 6 * 2 ^ 60 → IsBall (floor_over (low +ℤ high) 2) (high -ℤ floor_over (low +ℤ high) 2)
unfolding reach
hull-ball low high h room =
    let m = floor_over (low +ℤ high) 2 in
    let most = half_at_most (low +ℤ high) in
    let near = half_near (low +ℤ high) in
    is-ball _ _ (omega (arith, ints, h, most)) (omega (arith, ints, h, room, most, near))

pub hull-low : (low high : ℤ) → (floor_over (low +ℤ high) 2 -ℤ (high -ℤ floor_over (low +ℤ high) 2)) ≤ℤ low
hull-low low high = omega (arith, ints, half_at_most (low +ℤ high))

pub hull-high : (low high : ℤ) → high ≤ℤ (floor_over (low +ℤ high) 2 +ℤ (high -ℤ floor_over (low +ℤ high) 2))
hull-high low high = omega (arith, ints)

pub hull-width : (low high : ℤ) → low ≤ℤ high → 2 * unsigned_abs (high -ℤ floor_over (low +ℤ high) 2) ≤ width low high + 1
unfolding width
hull-width low high h = omega (arith, ints, h, half_at_most (low +ℤ high), half_near (low +ℤ high))

pub hull-far : (low high : ℤ) → low ≤ℤ high → unsigned_abs (floor_over (low +ℤ high) 2) + unsigned_abs (high -ℤ floor_over (low +ℤ high) 2) ≤ reach low high + 1
unfolding reach
hull-far low high h = omega (arith, ints, h, half_at_most (low +ℤ high), half_near (low +ℤ high))

-- the lesser low end and the greater high end reach no farther than the ends they are taken of
pub joined-order : (low high low' high' : ℤ) → low ≤ℤ high → int_min low low' ≤ℤ int_max high high'
joined-order low high low' high' h = omega (arith, ints, clamps, h)

pub joined-reach : (low high low' high' : ℤ) → reach (int_min low low') (int_max high high') ≤ max (reach low high) (reach low' high')
unfolding reach
joined-reach low high low' high' = omega (arith, ints, clamps)

pub joined-room : (low high low' high' : ℤ) (n : ℕ) → reach low high ≤ n → reach low' high' ≤ n → reach (int_min low low') (int_max high high') ≤ n
joined-room low high low' high' n h k = omega (arith, h, k, joined-reach low high low' high')
