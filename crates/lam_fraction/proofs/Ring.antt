-- The structures over which the solver works: commutative rings with an image of ℤ, ordered ones, and those with inverses.
use Rattle.std.proofs.Common.{◌≡◌, ◌⊎◌}
use Rattle.std.specs.Prelude.{ℤ, pos, ◌+ℤ◌, ◌*ℤ◌}

-- A commutative ring in which each whole number has its image; its zero and one are the images of 0 and 1.
-- The carrier need not be a set: the solver shows only that two terms are equal.
pub record Ring : Type 1 where
  pub Carrier : Type 0
  infixl 6 ◌⊞◌
  infixl 7 ◌⊡◌
  pub ◌⊞◌ : Carrier → Carrier → Carrier
  pub ◌⊡◌ : Carrier → Carrier → Carrier
  pub opposite : Carrier → Carrier
  pub image : ℤ → Carrier
  pub sum_assoc : (a b c : Carrier) → (a ⊞ b) ⊞ c ≡ a ⊞ (b ⊞ c)
  pub sum_comm : (a b : Carrier) → a ⊞ b ≡ b ⊞ a
  pub sum_zero : (a : Carrier) → a ⊞ image (pos 0) ≡ a
  pub sum_opposite : (a : Carrier) → a ⊞ opposite a ≡ image (pos 0)
  pub product_assoc : (a b c : Carrier) → (a ⊡ b) ⊡ c ≡ a ⊡ (b ⊡ c)
  pub product_comm : (a b : Carrier) → a ⊡ b ≡ b ⊡ a
  pub product_one : (a : Carrier) → a ⊡ image (pos 1) ≡ a
  pub distributes : (a b c : Carrier) → a ⊡ (b ⊞ c) ≡ (a ⊡ b) ⊞ (a ⊡ c)
  pub image_sum : (m n : ℤ) → image (m +ℤ n) ≡ image m ⊞ image n
  pub image_product : (m n : ℤ) → image (m *ℤ n) ≡ image m ⊡ image n

-- An ordered commutative ring: `⊴` is at most, `◁` is below, and one of the two holds between any two of its elements.
pub record Ordered : Type 1 where
  pub ring : Ring
  open ring use {Carrier, ◌⊞◌, ◌⊡◌, image}
  infix 5 ◌⊴◌ ◌◁◌
  pub ◌⊴◌ : Carrier → Carrier → Type 0
  pub ◌◁◌ : Carrier → Carrier → Type 0
  pub either : (a b : Carrier) → (a ⊴ b) ⊎ (b ◁ a)
  pub exclusive : (a b : Carrier) → a ⊴ b → ¬ (b ◁ a)
  pub weaken : (a b : Carrier) → a ◁ b → a ⊴ b
  pub antisymmetric : (a b : Carrier) → a ⊴ b → b ⊴ a → a ≡ b
  pub transitive : (a b c : Carrier) → a ⊴ b → b ⊴ c → a ⊴ c
  pub shifted : (a b c : Carrier) → a ⊴ b → (a ⊞ c) ⊴ (b ⊞ c)
  pub positive_product : (a b : Carrier) → image (pos 0) ◁ a → image (pos 0) ◁ b → image (pos 0) ◁ (a ⊡ b)

-- A commutative ring in which each element other than zero has an inverse.
pub record Field : Type 1 where
  pub ring : Ring
  open ring use {Carrier, ◌⊡◌, image}
  pub inverse : Carrier → Carrier
  pub product_inverse : (a : Carrier) → ¬ (a ≡ image (pos 0)) → a ⊡ inverse a ≡ image (pos 1)
