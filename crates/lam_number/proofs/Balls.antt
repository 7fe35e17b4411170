-- A ball is known by its middle and its radius; and how large the numbers are that the calls of balls go through.
use Rattle.std.proofs.Common.{◌≡◌, refl, sym, ap, ap₂, ◌∙◌, subst, ℕ, ◌+◌, ◌*◌, ◌/◌, ◌^◌, ◌<◌, ◌≤◌, arith, ℤ, pos, ◌+ℤ◌, ◌-ℤ◌, ◌*ℤ◌, ◌≤ℤ◌, ◌<ℤ◌, unsigned_abs, FitsSigned, to_z, of_z}
use Rattle.std.proofs.lemmas.Int.{ints, clamps, fits_signed_from_abs}
use Rattle.std.specs.Int.{w64}
use Rattle.std.proofs.lemmas.Nat.{mul-le}
use lib.Dec.{T_prop}
use lib.Signed.{quot_z}
use native.Mathlib.Bridge.{le_prop}
use Rattle.lam_fraction.specs.numbers.Numbers.{SumRoom, ProductRoom, reach}
use Rattle.lam_fraction.specs.numbers.Rounding.{floor_over, ceil_over}
use Rattle.lam_fraction.proofs.numbers.Rounded.{floor-at_most, floor-near}
use Rattle.lam_number.proofs.Casts.{read_narrow, two_ends}
use Rattle.lam_number.proofs.Rounded.{ceil-within}
use Rattle.lam_number.specs.declared.ball.Ball.{Ball}
use Rattle.lam_number.specs.inside.BallNumbers.{farthest, ball_of, radius-positive, ball-bounded, ball_numbers, spread, product_middle, product_radius}
use Rattle.lam_number.specs.inside.BallFacts.{half-of, reach-is, spread-reach, product-ball}

order_prop : (x y : ℤ) → IsProp (x ≤ℤ y)
order_prop x y = hlevel T_prop

same_ball : (a : Ball) (m r : ℤ) (p : pos 0 ≤ℤ r) (q : unsigned_abs m + unsigned_abs r ≤ 7 * 2 ^ 60) → a.middle ≡ m → a.radius ≡ r → let b : Ball = record { middle = m; radius = r; positive = p; bounded = q } in a ≡ b
same_ball a m r p q e f =
    let F : ℤ → ℤ → Type 0 = λ m r. (p : pos 0 ≤ℤ r) → (q : unsigned_abs m + unsigned_abs r ≤ 7 * 2 ^ 60) → (let b : Ball = record { middle = m; radius = r; positive = p; bounded = q } in a ≡ b) in
    let P : pos 0 ≤ℤ a.radius → Ball = λ o. record { middle = a.middle; radius = a.radius; positive = o; bounded = a.bounded } in
    let Q : pos 0 ≤ℤ a.radius → unsigned_abs a.middle + unsigned_abs a.radius ≤ 7 * 2 ^ 60 → Ball = λ p o. record { middle = a.middle; radius = a.radius; positive = p; bounded = o } in
    let same : F a.middle a.radius = λ p q. ap P (order_prop (pos 0) a.radius a.positive p) ∙ ap (Q p) (le_prop a.bounded q) in
    subst (λ m. F m r) e (subst (λ r. F a.middle r) f same) p q

pub ball_is : (a : Ball) (m r : ℤ) → a.middle ≡ m → a.radius ≡ r → a ≡ ball_of m r
unfolding ball_of
ball_is a m r e f = same_ball a _ _ (radius-positive m r) (ball-bounded m r) (omega (arith, ints, clamps, e, f, a.positive, a.bounded)) (omega (arith, ints, clamps, e, f, a.positive, a.bounded))

pub bounded_as : (y z m r : ℤ) → y ≡ m → z ≡ r → unsigned_abs m + unsigned_abs r ≤ farthest → unsigned_abs y + unsigned_abs z ≤ farthest
bounded_as y z m r e f h = omega (arith, ap unsigned_abs e, ap unsigned_abs f, h)

-- ---- sizes
pub size_of : (x : Ball) → reach ball_numbers x ≡ unsigned_abs x.middle + unsigned_abs x.radius
size_of x = reach-is x.middle x.radius x.positive

pub sizes : (x y : Ball) → SumRoom ball_numbers x y → unsigned_abs x.middle + unsigned_abs x.radius + (unsigned_abs y.middle + unsigned_abs y.radius) ≤ 6 * 2 ^ 60
sizes x y room = omega (arith, room, size_of x, size_of y)

pub spread_bound : (x y : Ball) → ProductRoom ball_numbers x y → spread x y ≤ 6 * 2 ^ 120
spread_bound x y room = omega (arith, room, spread-reach x y)

pub spread_parts : (x y : Ball) (a b d e : ℕ) → a ≡ unsigned_abs x.middle → b ≡ unsigned_abs x.radius → d ≡ unsigned_abs y.middle → e ≡ unsigned_abs y.radius → a * e + b * (d + e) ≡ spread x y
unfolding spread
spread_parts x y a b d e p q r s = rw (p, q, r, s) refl

pub middle_fits : (x y : Ball) → ProductRoom ball_numbers x y → FitsSigned w64 (product_middle x y)
middle_fits x y room = fits_signed_from_abs w64 _ (omega (arith, (product-ball x y room).bounded))

pub radius_size : (x y : Ball) → ProductRoom ball_numbers x y → unsigned_abs (product_radius x y) ≤ 7 * 2 ^ 60
radius_size x y room = omega (arith, (product-ball x y room).bounded)

pub end_fits : (x : Ball) → FitsSigned w64 x.middle × FitsSigned w64 x.radius
end_fits x = (fits_signed_from_abs w64 _ (omega (arith, x.bounded)), fits_signed_from_abs w64 _ (omega (arith, x.bounded)))

-- what a quotient of the middle leaves
pub quotient_rest : (m k q : ℤ) → pos 1 ≤ℤ k → q ≡ floor_over m (unsigned_abs k) → (pos 0 ≤ℤ (m -ℤ q *ℤ k)) × ((m -ℤ q *ℤ k) <ℤ k)
quotient_rest m k q p e =
    let n = unsigned_abs k in
    let some : 0 < n = omega (arith, ints, p) in
    let size : pos n ≡ k = omega (arith, ints, p) in
    let same : floor_over m n *ℤ pos n ≡ q *ℤ k = ap₂ ◌*ℤ◌ (sym e) size in
    (omega (arith, ints, same, floor-at_most m n some), omega (arith, ints, same, size, floor-near m n some))

-- and the radius with it, over k
pub rest_within : (rest r : ℤ) (n : ℕ) → 0 < n → pos 0 ≤ℤ rest → rest <ℤ pos n → pos 0 ≤ℤ r → unsigned_abs (ceil_over (rest +ℤ r) n) ≤ unsigned_abs r + 1
rest_within rest r n some h k l =
    let least : unsigned_abs r * 1 ≤ unsigned_abs r * n = mul-le _ _ _ _ (omega arith) some in
    ceil-within (rest +ℤ r) n (unsigned_abs r + 1) some (omega (arith, ints, h, k, l, least))

-- half of a root and two, as the machine takes it
pub half_is : (s : ℕ) → s < 2 ^ 62 → to_z w64 (of_z w64 (quot_z (to_z w64 (of_z w64 (to_z w64 s +ℤ pos 2))) (pos 2))) ≡ pos ((s + 2) / 2)
half_is s h =
    let inner : to_z w64 (of_z w64 (to_z w64 s +ℤ pos 2)) ≡ pos (s + 2) = omega (arith, ints, h) in
    let half : quot_z (to_z w64 (of_z w64 (to_z w64 s +ℤ pos 2))) (pos 2) ≡ pos ((s + 2) / 2) = ap (λ z. quot_z z (pos 2)) inner in
    read_narrow _ _ (fits_signed_from_abs w64 _ (omega (arith, ints, h, half, (half-of s).1))) half

pub four_ends : (f : ℤ → ℤ → ℤ → ℤ → ℤ) (a b d e : ℤ) → FitsSigned w64 a → FitsSigned w64 b → FitsSigned w64 d → FitsSigned w64 e
    → f (to_z w64 (of_z w64 a)) (to_z w64 (of_z w64 b)) (to_z w64 (of_z w64 d)) (to_z w64 (of_z w64 e)) ≡ f a b d e
four_ends f a b d e p q r s =
    two_ends (λ x y. f x y (to_z w64 (of_z w64 d)) (to_z w64 (of_z w64 e))) a b p q ∙ two_ends (f a b) d e r s

pub ends_in_order : (x : Ball) → ball_numbers.low x ≤ℤ ball_numbers.high x
ends_in_order x = omega (arith, ints, x.positive)
