-- The laws of the whole numbers, and their instances of `Ring` and `Ordered`.
use Rattle.std.proofs.Common.{◌≡◌, refl, ap, ℤ, pos, negsuc, ◌+ℤ◌, ◌*ℤ◌, neg_ℤ, ◌≤ℤ◌, ◌<ℤ◌, ◌⊎◌, arith, ◌*◌, mul-pos}
use Rattle.std.proofs.lemmas.Int.{ints}
use borrow.Author.Differences.{up, down, product_is, sum_is_lem}
use Rattle.lam_fraction.proofs.Ring.{Ring, Ordered}

pub sum_assoc : (a b c : ℤ) → (a +ℤ b) +ℤ c ≡ a +ℤ (b +ℤ c)
sum_assoc a b c = omega (arith, ints)

pub sum_comm : (a b : ℤ) → a +ℤ b ≡ b +ℤ a
sum_comm a b = omega (arith, ints)

pub sum_zero : (a : ℤ) → a +ℤ pos 0 ≡ a
sum_zero a = omega (arith, ints)

pub sum_opposite : (a : ℤ) → a +ℤ neg_ℤ a ≡ pos 0
sum_opposite a = omega (arith, ints)

pub product_assoc : (a b c : ℤ) → (a *ℤ b) *ℤ c ≡ a *ℤ (b *ℤ c)
product_assoc a b c = omega (
  arith,
  ints,
  ap (λ n. n * up c) (product_is a b).0,
  ap (λ n. n * down c) (product_is a b).0,
  ap (λ n. n * up c) (product_is a b).1,
  ap (λ n. n * down c) (product_is a b).1,
  ap (λ n. up a * n) (product_is b c).0,
  ap (λ n. down a * n) (product_is b c).0,
  ap (λ n. up a * n) (product_is b c).1,
  ap (λ n. down a * n) (product_is b c).1,
)

pub product_comm : (a b : ℤ) → a *ℤ b ≡ b *ℤ a
product_comm a b = omega (arith, ints)

pub product_one : (a : ℤ) → a *ℤ pos 1 ≡ a
product_one a = omega (arith, ints)

pub distributes : (a b c : ℤ) → a *ℤ (b +ℤ c) ≡ (a *ℤ b) +ℤ (a *ℤ c)
distributes a b c = omega (arith, ints, ap (λ n. up a * n) (sum_is_lem b c), ap (λ n. down a * n) (sum_is_lem b c))

-- The whole numbers are a ring, each its own image.
abbrev pub integers : Ring
integers = record {
  Carrier = ℤ;
  ◌⊞◌ = λ a b. a +ℤ b;
  ◌⊡◌ = λ a b. a *ℤ b;
  opposite = λ a. neg_ℤ a;
  image = λ n. n;
  sum_assoc = sum_assoc;
  sum_comm = sum_comm;
  sum_zero = sum_zero;
  sum_opposite = sum_opposite;
  product_assoc = product_assoc;
  product_comm = product_comm;
  product_one = product_one;
  distributes = distributes;
  image_sum = λ m n. refl;
  image_product = λ m n. refl;
}

pub either : (a b : ℤ) → (a ≤ℤ b) ⊎ (b <ℤ a)
either a b = grind (arith, ints)

pub exclusive : (a b : ℤ) → a ≤ℤ b → ¬ (b <ℤ a)
exclusive a b h k = omega (arith, ints)

pub weaken : (a b : ℤ) → a <ℤ b → a ≤ℤ b
weaken a b h = omega (arith, ints)

pub antisymmetric : (a b : ℤ) → a ≤ℤ b → b ≤ℤ a → a ≡ b
antisymmetric a b h k = omega (arith, ints)

pub transitive : (a b c : ℤ) → a ≤ℤ b → b ≤ℤ c → a ≤ℤ c
transitive a b c h k = omega (arith, ints)

pub shifted : (a b c : ℤ) → a ≤ℤ b → (a +ℤ c) ≤ℤ (b +ℤ c)
shifted a b c h = omega (arith, ints)

pub positive_product : (a b : ℤ) → pos 0 <ℤ a → pos 0 <ℤ b → pos 0 <ℤ (a *ℤ b)
positive_product (pos a) (pos b) h k = omega (arith, ints, mul-pos {m = a} {n = b} (omega (arith, ints)) (omega (arith, ints)))
positive_product (pos a) (negsuc b) h k = absurd (omega (arith, ints))
positive_product (negsuc a) b h k = absurd (omega (arith, ints))

-- The whole numbers are an ordered ring.
abbrev pub ordered_integers : Ordered
ordered_integers = record {
  ring = integers;
  ◌⊴◌ = λ a b. a ≤ℤ b;
  ◌◁◌ = λ a b. a <ℤ b;
  either = either;
  exclusive = exclusive;
  weaken = weaken;
  antisymmetric = antisymmetric;
  transitive = transitive;
  shifted = shifted;
  positive_product = positive_product;
}
