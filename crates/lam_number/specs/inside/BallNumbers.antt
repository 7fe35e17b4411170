-- Balls as a kind of enclosure: the formulas' middles and radii, over two to the power of 60.
use Rattle.std.specs.Prelude.{ℕ, ◌+◌, ◌*◌, ◌/◌, ◌^◌, ◌≤◌, ℤ, pos, neg_ℤ, ◌+ℤ◌, ◌-ℤ◌, ◌*ℤ◌, ◌≤ℤ◌, unsigned_abs}
use Rattle.std.specs.Int.{int_min, int_max}
use Rattle.std.proofs.Common.{arith}
use Rattle.std.proofs.lemmas.Int.{ints, clamps}
use Rattle.lam_fraction.specs.inside.FixedEnds.{ratio_low}
use Rattle.lam_fraction.specs.numbers.Numbers.{Numbers}
use Rattle.lam_fraction.specs.numbers.Rounding.{floor_over, ceil_over, root_floor}
use Rattle.lam_number.specs.declared.ball.Ball.{Ball}

-- the number from low to high that is nearest to z
abbrev pub between : ℤ → ℤ → ℤ → ℤ
between low high z = int_max low (int_min z high)

-- the farthest that a ball reaches
abbrev pub farthest : ℕ
farthest = 7 * 2 ^ 60

-- the middle that a ball can have, and the radius that it can have round this middle
abbrev pub middle_of : ℤ → ℤ
middle_of m = between (neg_ℤ (pos farthest)) (pos farthest) m

abbrev pub radius_of : ℤ → ℤ → ℤ
radius_of m r = between (pos 0) (pos farthest -ℤ pos (unsigned_abs (middle_of m))) r

pub radius-positive : (m r : ℤ) → pos 0 ≤ℤ radius_of m r
radius-positive m r = omega (arith, ints, clamps)

pub ball-bounded : (m r : ℤ) → unsigned_abs (middle_of m) + unsigned_abs (radius_of m r) ≤ farthest
ball-bounded m r = omega (arith, ints, clamps)

-- the ball round m of radius r, or the nearest where there is none
unfoldable pub ball_of : ℤ → ℤ → Ball
ball_of m r = record { middle = middle_of m; radius = radius_of m r; positive = radius-positive m r; bounded = ball-bounded m r }

-- how far a product of held numbers lies from the product of the middles at most: |m| r' + r (|m'| + r')
unfoldable pub spread : Ball → Ball → ℕ
spread x y = unsigned_abs x.middle * unsigned_abs y.radius + unsigned_abs x.radius * (unsigned_abs y.middle + unsigned_abs y.radius)

-- the product of the middles, rounded down, and the spread, rounded up, with one for what the middle loses
abbrev pub product_middle : Ball → Ball → ℤ
product_middle x y = floor_over (x.middle *ℤ y.middle) (2 ^ 60)

abbrev pub product_radius : Ball → Ball → ℤ
product_radius x y = ceil_over (pos (spread x y)) (2 ^ 60) +ℤ pos 1

abbrev pub product : Ball → Ball → Ball
product x y = ball_of (product_middle x y) (product_radius x y)

-- what a quotient of the middle leaves of it, and the radius, over k, rounded up
abbrev pub quotient_radius : (middle radius k quotient : ℤ) → ℤ
quotient_radius middle radius k quotient = ceil_over (middle -ℤ quotient *ℤ k +ℤ radius) (unsigned_abs k)

abbrev pub quotient_round : (x : Ball) (k quotient : ℤ) → Ball
quotient_round x k quotient = ball_of quotient (quotient_radius x.middle x.radius k quotient)

-- half of one above the whole root of a high end, rounded up
abbrev pub half_root : ℤ → ℕ
half_root high = (root_floor (unsigned_abs high * 2 ^ 60) + 2) / 2

-- round a middle, as far as a high end
abbrev pub up_to : (high middle : ℤ) → Ball
up_to high middle = ball_of middle (high -ℤ middle)

-- round half the sum of two ends, rounded down
abbrev pub hull_of : (low high : ℤ) → Ball
hull_of low high = up_to high (floor_over (low +ℤ high) 2)

abbrev pub ball_numbers : Numbers Ball
ball_numbers = record {
  scale = 60;
  slop = 4;
  low = λ x. x.middle -ℤ x.radius;
  high = λ x. x.middle +ℤ x.radius;
  calc = record {
    ratio = λ num den. ball_of (ratio_low 60 num den) (pos 1);
    sum = λ x y. ball_of (x.middle +ℤ y.middle) (x.radius +ℤ y.radius);
    difference = λ x y. ball_of (x.middle -ℤ y.middle) (x.radius +ℤ y.radius);
    product = λ x y. product x y;
    multiple = λ x k. ball_of (x.middle *ℤ k) (pos (unsigned_abs (x.radius *ℤ k)));
    quotient = λ x k. quotient_round x k (floor_over x.middle (unsigned_abs k));
    square = λ x. product x x;
  };
  root = λ x. ball_of (pos (half_root (x.middle +ℤ x.radius))) (pos (half_root (x.middle +ℤ x.radius)));
  hull = λ x y. hull_of (int_min (x.middle -ℤ x.radius) (y.middle -ℤ y.radius)) (int_max (x.middle +ℤ x.radius) (y.middle +ℤ y.radius));
}
