-- Balls keep the laws of enclosures.
use Rattle.std.specs.Prelude.{◌≡◌, ◌+◌, ◌*◌, ◌^◌, ◌≤◌, ℤ, pos, ◌+ℤ◌, ◌-ℤ◌, ◌*ℤ◌, ◌≤ℤ◌, ◌<ℤ◌, ◌⊎◌, unsigned_abs}
use Rattle.std.proofs.Common.{arith, sym, subst, ap}
use Rattle.std.proofs.lemmas.Int.{ints, unsigned_abs-mul}
use lib.Dec.{lit≤}
use Rattle.std.specs.Int.{int_min, int_max}
use Rattle.lam_fraction.specs.Fraction.{ℚ}
use Rattle.lam_fraction.specs.inside.FixedEnds.{ratio_low}
use Rattle.lam_fraction.specs.numbers.Encloses.{Encloses}
use Rattle.lam_fraction.specs.numbers.Rounding.{floor_over, ceil_over, root_floor}
use Rattle.lam_fraction.specs.numbers.Numbers.{Holds, SumRoom, ProductRoom, MultipleRoom, SquareRoom, HullRoom, RatioRoom, RootRoom, IsRatio, IsSum, IsDifference, IsProduct, IsMultiple, IsQuotient, IsSquare, IsRoot, IsHull, Lawful, reach, width}
use Rattle.lam_fraction.proofs.numbers.Consequences.{encloses_more}
use Rattle.lam_fraction.proofs.numbers.Holding as held
use Rattle.lam_number.specs.declared.ball.Ball.{Ball}
use Rattle.lam_number.specs.inside.BallNumbers.{ball_of, ball_numbers, product_middle, product_radius, quotient_radius, half_root}
use Rattle.lam_number.specs.inside.BallFacts.{IsBall, middle-is, radius-is, reach-is, width-is, ratio-ball, ratio-size, ratio-next, sum-ball, difference-ball, spread-reach, spread-width, middle-size, radius-size, product-ball, product-low, product-high, multiple-ball, multiple-low, multiple-high, quotient-ball, more-size, lower, higher, half-of, root-ball, root-high, hull-ball, hull-low, hull-high, hull-width, hull-far, joined-order, joined-room, joined-reach, square-room}
use Rattle.lam_fraction.proofs.numbers.Rounded.{floor-size}

-- ---- of any ball
far-is : (z : Ball) → reach ball_numbers z ≡ unsigned_abs z.middle + unsigned_abs z.radius
far-is z = reach-is z.middle z.radius z.positive

wide-is : (z : Ball) → width ball_numbers z ≡ 2 * unsigned_abs z.radius
wide-is z = width-is z.middle z.radius z.positive

ordered : (z : Ball) → ball_numbers.low z ≤ℤ ball_numbers.high z
ordered z = omega (arith, ints, z.positive)

-- ---- of the ball of a middle and a radius
module _ (m r : ℤ) (h : IsBall m r) where
  low-is : ball_numbers.low (ball_of m r) ≡ m -ℤ r
  low-is = omega (arith, ints, middle-is m r h, radius-is m r h)

  high-is : ball_numbers.high (ball_of m r) ≡ m +ℤ r
  high-is = omega (arith, ints, middle-is m r h, radius-is m r h)

  far : reach ball_numbers (ball_of m r) ≡ unsigned_abs m + unsigned_abs r
  far = omega (arith, far-is (ball_of m r), ap unsigned_abs (middle-is m r h), ap unsigned_abs (radius-is m r h))

  wide : width ball_numbers (ball_of m r) ≡ 2 * unsigned_abs r
  wide = omega (arith, wide-is (ball_of m r), ap unsigned_abs (radius-is m r h))

  -- it holds what ends within its own hold
  holds : {low high : ℤ} {x : ℚ} → (m -ℤ r) ≤ℤ low → high ≤ℤ (m +ℤ r) → Encloses 60 low high x → Holds ball_numbers (ball_of m r) x
  holds {low} {high} least most p = record { encloses = encloses_more p (subst (λ z. z ≤ℤ low) (sym low-is) least) (subst (λ z. high ≤ℤ z) (sym high-is) most) }

-- ---- the calls
is_ratio : (k d : ℤ) → RatioRoom k d → IsRatio ball_numbers k d (ball_numbers.calc.ratio k d)
is_ratio k d room =
    let m = ratio_low 60 k d in
    let ball = ratio-ball k d room.positive room.room in
    record {
      held = holds m (pos 1) ball (omega (arith, ints)) (ratio-next k d room.positive) (held.ratio_held 60 k d room.positive);
      narrow = omega (arith, wide m (pos 1) ball);
      far = omega (arith, ap (λ n. n * unsigned_abs d) (far m (pos 1) ball), ratio-size k d room.positive);
    }

is_sum : (z w : Ball) → SumRoom ball_numbers z w → IsSum ball_numbers z w (ball_numbers.calc.sum z w)
is_sum z w room =
    let m = z.middle +ℤ w.middle in
    let r = z.radius +ℤ w.radius in
    let ball = sum-ball z.middle z.radius w.middle w.radius z.positive w.positive room in
    record {
      held = λ x y p q. holds m r ball (omega (arith, ints)) (omega (arith, ints)) (held.sum_held 60 _ _ _ _ x y p.encloses q.encloses);
      narrow = omega (arith, ints, wide m r ball, wide-is z, wide-is w, z.positive, w.positive);
      far = omega (arith, ints, far m r ball, far-is z, far-is w);
    }

is_difference : (z w : Ball) → SumRoom ball_numbers z w → IsDifference ball_numbers z w (ball_numbers.calc.difference z w)
is_difference z w room =
    let m = z.middle -ℤ w.middle in
    let r = z.radius +ℤ w.radius in
    let ball = difference-ball z.middle z.radius w.middle w.radius z.positive w.positive room in
    record {
      held = λ x y p q. holds m r ball (omega (arith, ints)) (omega (arith, ints)) (held.difference_held 60 _ _ _ _ x y p.encloses q.encloses);
      narrow = omega (arith, ints, wide m r ball, wide-is z, wide-is w, z.positive, w.positive);
      far = omega (arith, ints, far m r ball, far-is z, far-is w);
    }

is_product : (z w : Ball) → ProductRoom ball_numbers z w → IsProduct ball_numbers z w (ball_numbers.calc.product z w)
is_product z w room =
    let m = product_middle z w in
    let r = product_radius z w in
    let ball = product-ball z w room in
    record {
      held = λ x y p q. holds m r ball (product-low z w) (product-high z w) (held.product_held 60 _ _ _ _ x y (ordered z) (ordered w) p.encloses q.encloses);
      narrow = omega (arith, wide m r ball, radius-size z w, spread-width z w);
      far = omega (arith, far m r ball, middle-size z w, radius-size z w, spread-reach z w);
    }

is_multiple : (z : Ball) (k : ℤ) → MultipleRoom ball_numbers z k → IsMultiple ball_numbers z k (ball_numbers.calc.multiple z k)
is_multiple z k room =
    let m = z.middle *ℤ k in
    let r = pos (unsigned_abs (z.radius *ℤ k)) in
    let ball = multiple-ball z.middle z.radius k z.positive room in
    let n = unsigned_abs k in
    record {
      held = λ x p. holds m r ball (multiple-low z.middle z.radius k) (multiple-high z.middle z.radius k) (held.times_held 60 _ _ k x p.encloses);
      narrow = omega (arith, wide m r ball, unsigned_abs-mul z.radius k, ap (λ a. a * n) (wide-is z));
      far = omega (arith, far m r ball, unsigned_abs-mul z.middle k, unsigned_abs-mul z.radius k, ap (λ a. a * n) (far-is z));
    }

-- a divisor of at least 1 is its size
divisor : (k : ℤ) → pos 1 ≤ℤ k → pos (unsigned_abs k) ≡ k
divisor k p = omega (arith, ints, p)

is_quotient : (z : Ball) (k : ℤ) → pos 1 ≤ℤ k → IsQuotient ball_numbers z k (ball_numbers.calc.quotient z k)
is_quotient z k p =
    let n = unsigned_abs k in
    let m = floor_over z.middle n in
    let r = quotient_radius z.middle z.radius k m in
    let some : 1 ≤ n = omega (arith, ints, p) in
    let ball = quotient-ball z.middle z.radius k z.positive z.bounded p in
    let same = ap (λ d. ceil_over (z.middle -ℤ m *ℤ d +ℤ z.radius) n) (divisor k p) in
    let size = subst (λ t. unsigned_abs t * n ≤ unsigned_abs z.radius + 2 * n) same (more-size z.middle z.radius n some z.positive) in
    let low = subst (λ t. (m -ℤ t) ≤ℤ floor_over (z.middle -ℤ z.radius) n) same (lower z.middle z.radius n some z.positive) in
    let high = subst (λ t. ceil_over (z.middle +ℤ z.radius) n ≤ℤ (m +ℤ t)) same (higher z.middle z.radius n some z.positive) in
    record {
      held = λ x q. holds m r ball low high (held.quotient_held 60 _ _ k x p q.encloses);
      narrow = omega (arith, ap (λ a. a * n) (wide m r ball), wide-is z, size);
      far = omega (arith, ap (λ a. a * n) (far m r ball), far-is z, size, floor-size z.middle n some);
    }

is_square : (z : Ball) → SquareRoom ball_numbers z → IsSquare ball_numbers z (ball_numbers.calc.square z)
is_square z room =
    let p = is_product z z (square-room (reach ball_numbers z) room) in
    record {
      held = λ x q. p.held x x q q;
      narrow = omega (arith, p.narrow);
      far = p.far;
    }

is_root : (z : Ball) → RootRoom ball_numbers z → IsRoot ball_numbers z (ball_numbers.root z)
is_root z room =
    let end = z.middle +ℤ z.radius in
    let c = pos (half_root end) in
    let ball = root-ball end room.sign room.room in
    let s = root_floor (unsigned_abs end * 2 ^ 60) in
    let low : ball_numbers.low (ball_of c c) ≡ pos 0 = omega (arith, ints, low-is c c ball) in
    record {
      held = λ x sign p. holds c c ball (omega (arith, ints)) (omega (arith, ints, (half-of s).0)) (held.root_held 60 _ _ x room.sign sign p.encloses);
      least = omega (arith, ints, low);
      low = omega (arith, ints, low);
      high = subst (λ t. (t ≤ℤ pos 4) ⊎ (((t -ℤ pos 4) *ℤ (t -ℤ pos 4)) <ℤ (end *ℤ pos (2 ^ 60)))) (sym (high-is c c ball)) (root-high end room.sign);
    }

is_hull : (z w : Ball) → HullRoom ball_numbers z w → IsHull ball_numbers z w (ball_numbers.hull z w)
is_hull z w room =
    let low = int_min (ball_numbers.low z) (ball_numbers.low w) in
    let high = int_max (ball_numbers.high z) (ball_numbers.high w) in
    let m = floor_over (low +ℤ high) 2 in
    let r = high -ℤ m in
    let order : low ≤ℤ high = joined-order (ball_numbers.low z) (ball_numbers.high z) (ball_numbers.low w) (ball_numbers.high w) (ordered z) in
    let ball = hull-ball low high order (joined-room (ball_numbers.low z) (ball_numbers.high z) (ball_numbers.low w) (ball_numbers.high w) _ room.first room.second) in
    record {
      first = λ x p. holds m r ball (hull-low low high) (hull-high low high) (held.hull_first 60 _ _ _ _ x p.encloses);
      second = λ x p. holds m r ball (hull-low low high) (hull-high low high) (held.hull_second 60 _ _ _ _ x p.encloses);
      narrow = omega (arith, wide m r ball, hull-width low high order);
      far = omega (arith, far m r ball, hull-far low high order, joined-reach (ball_numbers.low z) (ball_numbers.high z) (ball_numbers.low w) (ball_numbers.high w));
    }

pub ball_lawful : Lawful ball_numbers
ball_lawful = record {
  fine = lit≤ tt;
  fits = lit≤ tt;
  wide = lit≤ tt;
  narrow = lit≤ tt;
  ordered = ordered;
  ratio = is_ratio;
  sum = is_sum;
  difference = is_difference;
  product = is_product;
  multiple = is_multiple;
  quotient = is_quotient;
  square = is_square;
  root = is_root;
  hull = is_hull;
}
