-- Tests of the order of whole numbers, and what they tell.
use Rattle.std.proofs.Common.{◌≡◌, refl, Bool, true, false, ℤ, ◌≤ℤ◌, ◌<ℤ◌, int_le, int_lt, arith}
use Rattle.std.proofs.lemmas.Int.{ints}

pub is_below : (a b : ℤ) → int_lt a b ≡ true → a <ℤ b
is_below a b e = omega (arith, ints, e)

pub not_below : (a b : ℤ) → int_lt a b ≡ false → b ≤ℤ a
not_below a b e = omega (arith, ints, e)

pub is_at_most : (a b : ℤ) → int_le a b ≡ true → a ≤ℤ b
is_at_most a b e = omega (arith, ints, e)

pub below : (a b : ℤ) → a <ℤ b → int_lt a b ≡ true
below a b h = go (int_lt a b) refl
  where
    go : (t : Bool) → int_lt a b ≡ t → t ≡ true
    go true e = refl
    go false e = absurd (omega (arith, ints, h, not_below a b e))

pub above : (a b : ℤ) → b ≤ℤ a → int_lt a b ≡ false
above a b h = go (int_lt a b) refl
  where
    go : (t : Bool) → int_lt a b ≡ t → t ≡ false
    go true e = absurd (omega (arith, ints, h, is_below a b e))
    go false e = refl

-- one number is at most another, or above it
pub int_cases : {X : Type 0} (a b : ℤ) → (a ≤ℤ b → X) → (b <ℤ a → X) → X
int_cases {X} a b f g = go (int_lt b a) refl
  where
    go : (t : Bool) → int_lt b a ≡ t → X
    go true e = g (is_below b a e)
    go false e = f (not_below b a e)
