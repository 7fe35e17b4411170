-- Laws of the whole numbers that fractions rest on.
use Rattle.std.proofs.Common.{◌≡◌, ℤ, pos, negsuc, ◌+ℤ◌, ◌*ℤ◌, neg_ℤ, ◌<ℤ◌, ◌*◌, ◌+◌, ◌≤◌, ℕ, zero, suc, Bool, true, false, T, refl, sym, ◌∙◌, ap, arith}
use Rattle.std.proofs.lemmas.Int.{ints}
use borrow.Author.Differences.{up, down, sum_is_lem, product_is, neg_is, same_in, le_T, le_in}
use native.Mathlib.Nat.{mul-le-mul_right, le_of_mul-le-mul_right}
use lib.Signed.{le_z}

pub times-comm : (a b : ℤ) → a *ℤ b ≡ b *ℤ a
times-comm a b = same_in (a *ℤ b) (b *ℤ a) (omega (arith, product_is a b, product_is b a))

pub times-assoc : (a b c : ℤ) → (a *ℤ b) *ℤ c ≡ a *ℤ (b *ℤ c)
times-assoc a b c =
    let l = product_is a b in
    let r = product_is b c in
    same_in ((a *ℤ b) *ℤ c) (a *ℤ (b *ℤ c)) (omega (
      arith,
      product_is (a *ℤ b) c,
      product_is a (b *ℤ c),
      ap (λ x. x * up c) l.0,
      ap (λ x. x * down c) l.0,
      ap (λ x. x * up c) l.1,
      ap (λ x. x * down c) l.1,
      ap (λ x. up a * x) r.0,
      ap (λ x. down a * x) r.0,
      ap (λ x. up a * x) r.1,
      ap (λ x. down a * x) r.1,
    ))

pub sum-times : (a b c : ℤ) → (a +ℤ b) *ℤ c ≡ a *ℤ c +ℤ b *ℤ c
sum-times a b c =
    let s = sum_is_lem a b in
    same_in ((a +ℤ b) *ℤ c) (a *ℤ c +ℤ b *ℤ c) (omega (arith, product_is (a +ℤ b) c, sum_is_lem (a *ℤ c) (b *ℤ c), product_is a c, product_is b c, ap (λ x. x * up c) s, ap (λ x. x * down c) s))

pub sum-comm : (a b : ℤ) → a +ℤ b ≡ b +ℤ a
sum-comm a b = omega (arith, ints)

pub neg-times : (a b : ℤ) → neg_ℤ a *ℤ b ≡ neg_ℤ (a *ℤ b)
neg-times a b = same_in (neg_ℤ a *ℤ b) (neg_ℤ (a *ℤ b)) (omega (arith, product_is (neg_ℤ a) b, product_is a b, neg_is (a *ℤ b), ap (λ x. x * up b) (neg_is a).0, ap (λ x. x * down b) (neg_is a).0, ap (λ x. x * up b) (neg_is a).1, ap (λ x. x * down b) (neg_is a).1))

-- the two inner factors change places
pub middle : (a b c d : ℤ) → (a *ℤ b) *ℤ (c *ℤ d) ≡ (a *ℤ c) *ℤ (b *ℤ d)
middle a b c d =
    times-assoc a b (c *ℤ d) ∙ ap (λ t. a *ℤ t) (sym (times-assoc b c d) ∙ ap (λ t. t *ℤ d) (times-comm b c) ∙ times-assoc c b d)
    ∙ sym (times-assoc a c (b *ℤ d))

-- the last two factors change places
pub last : (a b c : ℤ) → (a *ℤ b) *ℤ c ≡ (a *ℤ c) *ℤ b
last a b c = times-assoc a b c ∙ ap (λ t. a *ℤ t) (times-comm b c) ∙ sym (times-assoc a c b)

-- ---- what is above 0

pub one_positive : pos 0 <ℤ pos 1
one_positive = omega (arith, ints)

pub suc_positive : (n : ℕ) → pos 0 <ℤ pos (suc n)
suc_positive n = omega (arith, ints)

pub product_positive : (a b : ℤ) → pos 0 <ℤ a → pos 0 <ℤ b → pos 0 <ℤ (a *ℤ b)
product_positive (pos zero) b h k = absurd (omega (arith, ints))
product_positive (pos (suc a)) (pos zero) h k = absurd (omega (arith, ints))
product_positive (pos (suc a)) (pos (suc b)) h k = omega (arith, ints)
product_positive (pos (suc a)) (negsuc b) h k = absurd (omega (arith, ints))
product_positive (negsuc a) b h k = absurd (omega (arith, ints))

-- ---- the order

same_tests : (s t : Bool) → (T s → T t) → (T t → T s) → s ≡ t
same_tests true true f g = refl
same_tests true false f g = absurd (f tt)
same_tests false true f g = absurd (g tt)
same_tests false false f g = refl

-- the order of two products with one factor above 0 is that of the other factors
pub le-times : (a b k : ℤ) → pos 0 <ℤ k → le_z (a *ℤ k) (b *ℤ k) ≡ le_z a b
le-times a b (pos zero) h = absurd (omega (arith, ints))
le-times a b (negsuc n) h = absurd (omega (arith, ints))
le-times a b (pos (suc n)) h = same_tests (le_z (a *ℤ pos (suc n)) (b *ℤ pos (suc n))) (le_z a b)
    (λ t. le_in a b (le_of_mul-le-mul_right {k = suc n} (omega (arith, le_T (a *ℤ pos (suc n)) (b *ℤ pos (suc n)) t, product_is a (pos (suc n)), product_is b (pos (suc n)))) (omega arith)))
    (λ t. le_in (a *ℤ pos (suc n)) (b *ℤ pos (suc n)) (let m : (up a + down b) * suc n ≤ (up b + down a) * suc n = mul-le-mul_right (suc n) (le_T a b t) in omega (arith, m, product_is a (pos (suc n)), product_is b (pos (suc n)))))
