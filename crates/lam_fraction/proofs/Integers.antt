-- The solver at the whole numbers.
use Rattle.std.proofs.Common.{◌≡◌, refl, ℕ, suc, ◌<◌, arith, ℤ, pos, negsuc, ◌+ℤ◌, ◌-ℤ◌, ◌*ℤ◌, neg_ℤ, ◌≤ℤ◌, ◌<ℤ◌, List, [], ◌∷◌, subst}
use Rattle.std.proofs.lemmas.Int.{ints}
use lib.Signed.{lt_z_yes, shr_z}
use Rattle.lam_fraction.proofs.Laws as Laws
use Rattle.lam_fraction.proofs.Laws.{integers, ordered_integers}
use Rattle.lam_fraction.proofs.Expression.{int, ◌⊕◌, ◌⊗◌, minus}
use Rattle.lam_fraction.proofs.Normaliser.{nil, gap}
use Rattle.lam_fraction.proofs.Order as Order
use Rattle.lam_fraction.proofs.Solver as Solver
use Rattle.lam_fraction.proofs.Solver.{Quote, Quotes, quote_sides, unknowns, Formula, gap_of, at_unknowns, Always}

abbrev pub quote_sum : {xs : List ℤ} {x y : ℤ} → Quote integers xs x → Quote integers xs y → Quote integers xs (x +ℤ y)
quote_sum p q = record { expr = p.expr ⊕ q.expr; is = Solver.sum_is p q }

abbrev pub quote_product : {xs : List ℤ} {x y : ℤ} → Quote integers xs x → Quote integers xs y → Quote integers xs (x *ℤ y)
quote_product p q = record { expr = p.expr ⊗ q.expr; is = Solver.product_is p q }

abbrev pub quote_minus : {xs : List ℤ} {x : ℤ} → Quote integers xs x → Quote integers xs (neg_ℤ x)
quote_minus p = record { expr = minus p.expr; is = Solver.minus_is p }

abbrev pub quote_pos : {xs : List ℤ} {n : ℕ} → Quote integers xs (pos n)
quote_pos {n} = record { expr = int (pos n); is = refl }

abbrev pub quote_negsuc : {xs : List ℤ} {n : ℕ} → Quote integers xs (negsuc n)
quote_negsuc {n} = record { expr = int (negsuc n); is = refl }

pub ruleset quotes = (quote_sides, quote_sum, quote_product, quote_minus, quote_pos, quote_negsuc, unknowns)

-- An identity, read off the goal: `by_ring (a ∷ b ∷ []) (search quotes depth 20) refl`, with the unknowns in the list.
pub by_ring : (xs : List ℤ) {a b : ℤ} (q : Quotes integers xs a b) → gap q.left.expr q.right.expr ≡ nil → a ≡ b
by_ring xs q g = Solver.by_ring integers xs q g

-- An identity, written again over expressions: `solve 2 (λ x y. x ⊗ y ≐ y ⊗ x) refl`.
pub solve : (n : ℕ) (f : Formula n) → gap_of (at_unknowns n 0 f) ≡ nil → Always integers n (λ xs. xs) (at_unknowns n 0 f)
solve n f g = Solver.solve integers n f g

-- ---- an equation that follows from others: a is b with multiples of their differences
pub from₁ : {a b x y : ℤ} (c : ℤ) → x ≡ y → a ≡ b +ℤ c *ℤ (x -ℤ y) → a ≡ b
from₁ c e h = Solver.from₁ integers c e h

pub from₂ : {a b x₁ y₁ x₂ y₂ : ℤ} (c₁ : ℤ) → x₁ ≡ y₁ → (c₂ : ℤ) → x₂ ≡ y₂ → a ≡ b +ℤ c₁ *ℤ (x₁ -ℤ y₁) +ℤ c₂ *ℤ (x₂ -ℤ y₂) → a ≡ b
from₂ c₁ e₁ c₂ e₂ h = Solver.from₂ integers c₁ e₁ c₂ e₂ h

pub from₃ : {a b x₁ y₁ x₂ y₂ x₃ y₃ : ℤ} (c₁ : ℤ) → x₁ ≡ y₁ → (c₂ : ℤ) → x₂ ≡ y₂ → (c₃ : ℤ) → x₃ ≡ y₃
    → a ≡ b +ℤ c₁ *ℤ (x₁ -ℤ y₁) +ℤ c₂ *ℤ (x₂ -ℤ y₂) +ℤ c₃ *ℤ (x₃ -ℤ y₃) → a ≡ b
from₃ c₁ e₁ c₂ e₂ c₃ e₃ h = Solver.from₃ integers c₁ e₁ c₂ e₂ c₃ e₃ h

-- ---- certificates: an expression that is plainly not negative, or positive
pub above : {a b : ℤ} → a ≤ℤ b → pos 0 ≤ℤ (b -ℤ a)
above h = Order.above ordered_integers h

pub strictly_above : {a b : ℤ} → a <ℤ b → pos 0 <ℤ (b -ℤ a)
strictly_above h = Order.strictly_above ordered_integers h

pub square : (x : ℤ) → pos 0 ≤ℤ (x *ℤ x)
square x = Order.square ordered_integers x

pub number : (n : ℕ) → pos 0 ≤ℤ pos n
number n = Order.number ordered_integers n

-- n and one more
pub positive_number : (n : ℕ) → pos 0 <ℤ pos (suc n)
positive_number n = Order.positive_number ordered_integers (lt_z_yes tt) n

pub weaken : {a b : ℤ} → a <ℤ b → a ≤ℤ b
weaken {a} {b} h = Laws.weaken a b h

-- sums and products: `n` of two that are not negative, `p` of a positive one with one that is not negative, and of two positive ones
infixl 6 ◌+ₙ◌ ◌+ₚ◌
infixl 7 ◌*ₙ◌ ◌*ₚ◌
pub ◌+ₙ◌ : {a b : ℤ} → pos 0 ≤ℤ a → pos 0 ≤ℤ b → pos 0 ≤ℤ (a +ℤ b)
h +ₙ k = Order.sum_not_negative ordered_integers h k

pub ◌+ₚ◌ : {a b : ℤ} → pos 0 <ℤ a → pos 0 ≤ℤ b → pos 0 <ℤ (a +ℤ b)
h +ₚ k = Order.sum_positive ordered_integers h k

pub ◌*ₙ◌ : {a b : ℤ} → pos 0 ≤ℤ a → pos 0 ≤ℤ b → pos 0 ≤ℤ (a *ℤ b)
h *ₙ k = Order.product_not_negative ordered_integers h k

pub ◌*ₚ◌ : {a b : ℤ} → pos 0 <ℤ a → pos 0 <ℤ b → pos 0 <ℤ (a *ℤ b)
h *ₚ k = Order.product_positive ordered_integers h k

-- ---- conclusions from a certificate and the identity of the difference with it
pub at_most : {a b c : ℤ} → pos 0 ≤ℤ c → b -ℤ a ≡ c → a ≤ℤ b
at_most h e = Order.at_most ordered_integers h e

pub below : {a b c : ℤ} → pos 0 <ℤ c → b -ℤ a ≡ c → a <ℤ b
below h e = Order.below ordered_integers h e

pub at_most_over : {a b c k : ℤ} → pos 0 <ℤ k → pos 0 ≤ℤ c → k *ℤ (b -ℤ a) ≡ c → a ≤ℤ b
at_most_over h n e = Order.at_most_over ordered_integers h n e

pub below_over : {a b c k : ℤ} → pos 0 <ℤ k → pos 0 <ℤ c → k *ℤ (b -ℤ a) ≡ c → a <ℤ b
below_over h n e = Order.below_over ordered_integers h n e

-- ---- factors
pub without_factor : {a b : ℤ} (k : ℤ) → pos 0 <ℤ k → (k *ℤ a) ≤ℤ (k *ℤ b) → a ≤ℤ b
without_factor k p h = Order.without_factor ordered_integers k p h

pub without_factor_below : {a b : ℤ} (k : ℤ) → pos 0 <ℤ k → (k *ℤ a) <ℤ (k *ℤ b) → a <ℤ b
without_factor_below k p h = Order.without_factor_below ordered_integers k p h

pub with_factor : {a b : ℤ} (k : ℤ) → pos 0 ≤ℤ k → a ≤ℤ b → (k *ℤ a) ≤ℤ (k *ℤ b)
with_factor k p h = Order.with_factor ordered_integers k p h

pub same_without_factor : {a b : ℤ} (k : ℤ) → pos 0 <ℤ k → k *ℤ a ≡ k *ℤ b → a ≡ b
same_without_factor k p e = Order.same_without_factor ordered_integers k p e

pub zero_factor : {a : ℤ} (k : ℤ) → pos 0 <ℤ k → k *ℤ a ≡ pos 0 → a ≡ pos 0
zero_factor k p e = Order.zero_factor ordered_integers k p e

-- ---- equality
pub antisym : {a b : ℤ} → a ≤ℤ b → b ≤ℤ a → a ≡ b
antisym {a} {b} h k = Laws.antisymmetric a b h k

pub zero_square : (x : ℤ) → x *ℤ x ≡ pos 0 → x ≡ pos 0
zero_square x e = Order.zero_square ordered_integers x e

pub zero_sum_first : {a b : ℤ} → pos 0 ≤ℤ a → pos 0 ≤ℤ b → a +ℤ b ≡ pos 0 → a ≡ pos 0
zero_sum_first h k e = Order.zero_sum_first ordered_integers h k e

pub zero_sum_second : {a b : ℤ} → pos 0 ≤ℤ a → pos 0 ≤ℤ b → a +ℤ b ≡ pos 0 → b ≡ pos 0
zero_sum_second h k e = Order.zero_sum_second ordered_integers h k e

-- a product of two that lie between -a and a, and between -b and b
pub product_within : {a b x y : ℤ} → neg_ℤ a ≤ℤ x → x ≤ℤ a → neg_ℤ b ≤ℤ y → y ≤ℤ b → (neg_ℤ (a *ℤ b) ≤ℤ (x *ℤ y)) × ((x *ℤ y) ≤ℤ (a *ℤ b))
product_within h k l m = Order.product_within ordered_integers h k l m

-- ---- a quotient rounded down, as a shift gives it
pub floor_is : (n : ℤ) (m : ℕ) → 0 < m → ((shr_z n m *ℤ pos m) ≤ℤ n) × (n <ℤ (shr_z n m *ℤ pos m +ℤ pos m))
floor_is (pos n) m h = omega (arith, ints)
floor_is (negsuc n) m h = omega (arith, ints)

-- a number whose square is at most that of another
pub below_root : (z m : ℤ) → pos 0 <ℤ m → (z *ℤ z) ≤ℤ (m *ℤ m) → z ≤ℤ m
below_root (negsuc z) m p h = omega (arith, ints)
below_root (pos z) m p h = go (pos z) (number z) h
  where
    go : (z : ℤ) → pos 0 ≤ℤ z → (z *ℤ z) ≤ℤ (m *ℤ m) → z ≤ℤ m
    go z least h = at_most_over {k = m +ℤ z} (omega (arith, ints, p, least)) (above h) (by_ring (z ∷ m ∷ []) (search quotes depth 20) refl)

pub above_root : (z m : ℤ) → pos 0 <ℤ m → (z *ℤ z) ≤ℤ (m *ℤ m) → neg_ℤ z ≤ℤ m
above_root z m p h = below_root (neg_ℤ z) m p (subst (λ x. x ≤ℤ (m *ℤ m)) (by_ring (z ∷ []) (search quotes depth 20) refl) h)
