-- The reach and the width of two ends, and what a product's middles and widths make.
use Rattle.std.proofs.Common.{◌≡◌, ap, ◌∙◌, ℕ, ◌+◌, ◌*◌, ◌^◌, ◌≤◌, arith, ℤ, ◌+ℤ◌, ◌≤ℤ◌, unsigned_abs}
use Rattle.std.proofs.lemmas.Int.{ints, unsigned_abs-mul}
use Rattle.std.proofs.lemmas.Nat.{pow-add}
use Rattle.lam_fraction.specs.numbers.Ends.{reach, width}
use Rattle.lam_fraction.specs.inside.FixedEnds.{product_centre, product_spread}

pub low-reach : (low high : ℤ) → unsigned_abs low ≤ reach low high
unfolding reach
low-reach low high = omega (arith, ints)

pub high-reach : (low high : ℤ) → unsigned_abs high ≤ reach low high
unfolding reach
high-reach low high = omega (arith, ints)

-- the size of the doubled middle and the width make twice the reach
pub middle-width : (low high : ℤ) → low ≤ℤ high → unsigned_abs (low +ℤ high) + width low high ≡ 2 * reach low high
unfolding reach width
middle-width low high h = omega (arith, ints)

-- four times a product of reaches is what the doubled middles and the widths make
four_reaches : (a b r s p q : ℕ) → a + r ≡ 2 * p → b + s ≡ 2 * q → a * b + (a * s + b * r + r * s) ≡ 4 * (p * q)
four_reaches a b r s p q e f =
    let g : a * b + (a * s + b * r + r * s) ≡ (a + r) * (b + s) = omega arith in
    g ∙ ap (λ n. n * (b + s)) e ∙ ap (λ n. (2 * p) * n) f ∙ omega arith

-- four units
pub four_units : (s : ℕ) → 2 ^ (s + 2) ≡ 4 * 2 ^ s
four_units s = pow-add 2 s 2 ∙ omega arith

-- what lies within the spread of the centre is four products of the reaches in size at most
pub product_size : (low high low' high' : ℤ) → low ≤ℤ high → low' ≤ℤ high' → unsigned_abs (product_centre low high low' high') + product_spread low high low' high' ≡ 4 * (reach low high * reach low' high')
unfolding product_centre product_spread
product_size low high low' high' h k =
    ap (λ n. n + (unsigned_abs (low +ℤ high) * width low' high' + unsigned_abs (low' +ℤ high') * width low high + width low high * width low' high')) (unsigned_abs-mul (low +ℤ high) (low' +ℤ high'))
    ∙ four_reaches _ _ _ _ _ _ (middle-width low high h) (middle-width low' high' k)
