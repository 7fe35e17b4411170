-- The solver at the fractions.
use Rattle.std.proofs.Common.{◌≡◌, refl, sym, ◌∙◌, subst, ap₂, ℕ, suc, arith, ℤ, pos, List, [], ◌∷◌, ◌<ℤ◌}
use Rattle.std.proofs.lemmas.Int.{ints}
use Rattle.lam_fraction.specs.Fraction.{ℚ, whole, ◌+ℚ◌, ◌-ℚ◌, ◌*ℚ◌, ◌/ℚ◌, opposite, inverse, fraction, ◌≤ℚ◌, ◌<ℚ◌}
use Rattle.lam_fraction.proofs.FractionPairs.{whole-lt}
use Rattle.lam_fraction.proofs.FractionRing.{rationals, field_of_rationals}
use Rattle.lam_fraction.proofs.FractionOrder as FractionOrder
use Rattle.lam_fraction.proofs.FractionOrder.{ordered_rationals}
use Rattle.lam_fraction.proofs.Expression.{◌⊖◌, ◌⊗◌, eval}
use Rattle.lam_fraction.proofs.Normaliser.{nil, gap}
use Rattle.lam_fraction.proofs.Order as Order
use Rattle.lam_fraction.proofs.Solver as Solver
use Rattle.lam_fraction.proofs.Solver.{Quote, Quotes, Formula, gap_of, at_unknowns, Always, ◌≐◌}

pub difference_is : {xs : List ℚ} {x y : ℚ} (p : Quote rationals xs x) (q : Quote rationals xs y) → eval rationals xs (p.expr ⊖ q.expr) ≡ x -ℚ y
unfolding ◌-ℚ◌
difference_is p q = ap₂ ◌-ℚ◌ p.is q.is

pub quotient_is : {xs : List ℚ} {x : ℚ} (y : ℚ) (p : Quote rationals xs x) (q : Quote rationals xs (inverse y)) → eval rationals xs (p.expr ⊗ q.expr) ≡ x /ℚ y
unfolding ◌/ℚ◌
quotient_is y p q = ap₂ ◌*ℚ◌ p.is q.is

abbrev pub quote_difference : {xs : List ℚ} {x y : ℚ} → Quote rationals xs x → Quote rationals xs y → Quote rationals xs (x -ℚ y)
quote_difference p q = record { expr = p.expr ⊖ q.expr; is = difference_is p q }

-- the inverse of the divisor is an unknown of the list
abbrev pub quote_quotient : {xs : List ℚ} {x : ℚ} (y : ℚ) → Quote rationals xs x → Quote rationals xs (inverse y) → Quote rationals xs (x /ℚ y)
quote_quotient y p q = record { expr = p.expr ⊗ q.expr; is = quotient_is y p q }

pub ruleset quotes = (Solver.quotes, quote_difference, quote_quotient)

-- An identity, read off the goal: `by_ring (a ∷ b ∷ []) (search quotes depth 20) refl`, with the unknowns in the list.
pub by_ring : (xs : List ℚ) {a b : ℚ} (q : Quotes rationals xs a b) → gap q.left.expr q.right.expr ≡ nil → a ≡ b
by_ring xs q g = Solver.by_ring rationals xs q g

-- An identity, written again over expressions: `solve 2 (λ x y. x ⊗ y ≐ y ⊗ x) refl`.
pub solve : (n : ℕ) (f : Formula n) → gap_of (at_unknowns n 0 f) ≡ nil → Always rationals n (λ xs. xs) (at_unknowns n 0 f)
solve n f g = Solver.solve rationals n f g

-- ---- an equation that follows from others: a is b with multiples of their differences
pub from₁ : {a b x y : ℚ} (c : ℚ) → x ≡ y → a ≡ b +ℚ c *ℚ (x -ℚ y) → a ≡ b
unfolding ◌-ℚ◌
from₁ c e h = Solver.from₁ rationals c e h

pub from₂ : {a b x₁ y₁ x₂ y₂ : ℚ} (c₁ : ℚ) → x₁ ≡ y₁ → (c₂ : ℚ) → x₂ ≡ y₂ → a ≡ b +ℚ c₁ *ℚ (x₁ -ℚ y₁) +ℚ c₂ *ℚ (x₂ -ℚ y₂) → a ≡ b
unfolding ◌-ℚ◌
from₂ c₁ e₁ c₂ e₂ h = Solver.from₂ rationals c₁ e₁ c₂ e₂ h

pub from₃ : {a b x₁ y₁ x₂ y₂ x₃ y₃ : ℚ} (c₁ : ℚ) → x₁ ≡ y₁ → (c₂ : ℚ) → x₂ ≡ y₂ → (c₃ : ℚ) → x₃ ≡ y₃
    → a ≡ b +ℚ c₁ *ℚ (x₁ -ℚ y₁) +ℚ c₂ *ℚ (x₂ -ℚ y₂) +ℚ c₃ *ℚ (x₃ -ℚ y₃) → a ≡ b
unfolding ◌-ℚ◌
from₃ c₁ e₁ c₂ e₂ c₃ e₃ h = Solver.from₃ rationals c₁ e₁ c₂ e₂ c₃ e₃ h

-- ---- certificates: an expression that is plainly not negative, or positive
pub above : {a b : ℚ} → a ≤ℚ b → whole (pos 0) ≤ℚ (b -ℚ a)
unfolding ◌-ℚ◌
above h = Order.above ordered_rationals h

pub strictly_above : {a b : ℚ} → a <ℚ b → whole (pos 0) <ℚ (b -ℚ a)
unfolding ◌-ℚ◌
strictly_above h = Order.strictly_above ordered_rationals h

pub square : (x : ℚ) → whole (pos 0) ≤ℚ (x *ℚ x)
square x = Order.square ordered_rationals x

pub number : (n : ℕ) → whole (pos 0) ≤ℚ whole (pos n)
number n = Order.number ordered_rationals n

-- n and one more
pub positive_number : (n : ℕ) → whole (pos 0) <ℚ whole (pos (suc n))
positive_number n = (whole-lt (pos 0) (pos (suc n))).1 (omega (arith, ints))

pub weaken : {a b : ℚ} → a <ℚ b → a ≤ℚ b
weaken {a} {b} h = FractionOrder.weaken a b h

-- sums and products: `n` of two that are not negative, `p` of a positive one with one that is not negative, and of two positive ones
infixl 6 ◌+ₙ◌ ◌+ₚ◌
infixl 7 ◌*ₙ◌ ◌*ₚ◌
pub ◌+ₙ◌ : {a b : ℚ} → whole (pos 0) ≤ℚ a → whole (pos 0) ≤ℚ b → whole (pos 0) ≤ℚ (a +ℚ b)
h +ₙ k = Order.sum_not_negative ordered_rationals h k

pub ◌+ₚ◌ : {a b : ℚ} → whole (pos 0) <ℚ a → whole (pos 0) ≤ℚ b → whole (pos 0) <ℚ (a +ℚ b)
h +ₚ k = Order.sum_positive ordered_rationals h k

pub ◌*ₙ◌ : {a b : ℚ} → whole (pos 0) ≤ℚ a → whole (pos 0) ≤ℚ b → whole (pos 0) ≤ℚ (a *ℚ b)
h *ₙ k = Order.product_not_negative ordered_rationals h k

pub ◌*ₚ◌ : {a b : ℚ} → whole (pos 0) <ℚ a → whole (pos 0) <ℚ b → whole (pos 0) <ℚ (a *ℚ b)
h *ₚ k = Order.product_positive ordered_rationals h k

-- ---- conclusions from a certificate and the identity of the difference with it
pub at_most : {a b c : ℚ} → whole (pos 0) ≤ℚ c → b -ℚ a ≡ c → a ≤ℚ b
unfolding ◌-ℚ◌
at_most h e = Order.at_most ordered_rationals h e

pub below : {a b c : ℚ} → whole (pos 0) <ℚ c → b -ℚ a ≡ c → a <ℚ b
unfolding ◌-ℚ◌
below h e = Order.below ordered_rationals h e

pub at_most_over : {a b c k : ℚ} → whole (pos 0) <ℚ k → whole (pos 0) ≤ℚ c → k *ℚ (b -ℚ a) ≡ c → a ≤ℚ b
unfolding ◌-ℚ◌
at_most_over h n e = Order.at_most_over ordered_rationals h n e

pub below_over : {a b c k : ℚ} → whole (pos 0) <ℚ k → whole (pos 0) <ℚ c → k *ℚ (b -ℚ a) ≡ c → a <ℚ b
unfolding ◌-ℚ◌
below_over h n e = Order.below_over ordered_rationals h n e

-- ---- factors
pub without_factor : {a b : ℚ} (k : ℚ) → whole (pos 0) <ℚ k → (k *ℚ a) ≤ℚ (k *ℚ b) → a ≤ℚ b
without_factor k p h = Order.without_factor ordered_rationals k p h

pub without_factor_below : {a b : ℚ} (k : ℚ) → whole (pos 0) <ℚ k → (k *ℚ a) <ℚ (k *ℚ b) → a <ℚ b
without_factor_below k p h = Order.without_factor_below ordered_rationals k p h

pub with_factor : {a b : ℚ} (k : ℚ) → whole (pos 0) ≤ℚ k → a ≤ℚ b → (k *ℚ a) ≤ℚ (k *ℚ b)
with_factor k p h = Order.with_factor ordered_rationals k p h

pub same_without_factor : {a b : ℚ} (k : ℚ) → whole (pos 0) <ℚ k → k *ℚ a ≡ k *ℚ b → a ≡ b
same_without_factor k p e = Order.same_without_factor ordered_rationals k p e

pub zero_factor : {a : ℚ} (k : ℚ) → whole (pos 0) <ℚ k → k *ℚ a ≡ whole (pos 0) → a ≡ whole (pos 0)
zero_factor k p e = Order.zero_factor ordered_rationals k p e

-- ---- equality
pub antisym : {a b : ℚ} → a ≤ℚ b → b ≤ℚ a → a ≡ b
antisym {a} {b} h k = FractionOrder.antisymmetric a b h k

pub zero_square : (x : ℚ) → x *ℚ x ≡ whole (pos 0) → x ≡ whole (pos 0)
zero_square x e = Order.zero_square ordered_rationals x e

pub zero_sum_first : {a b : ℚ} → whole (pos 0) ≤ℚ a → whole (pos 0) ≤ℚ b → a +ℚ b ≡ whole (pos 0) → a ≡ whole (pos 0)
zero_sum_first h k e = Order.zero_sum_first ordered_rationals h k e

pub zero_sum_second : {a b : ℚ} → whole (pos 0) ≤ℚ a → whole (pos 0) ≤ℚ b → a +ℚ b ≡ whole (pos 0) → b ≡ whole (pos 0)
zero_sum_second h k e = Order.zero_sum_second ordered_rationals h k e

-- a product of two that lie between -a and a, and between -b and b
pub product_within : {a b x y : ℚ} → opposite a ≤ℚ x → x ≤ℚ a → opposite b ≤ℚ y → y ≤ℚ b → (opposite (a *ℚ b) ≤ℚ (x *ℚ y)) × ((x *ℚ y) ≤ℚ (a *ℚ b))
product_within h k l m = Order.product_within ordered_rationals h k l m

-- ---- chains
pub reflexive : (a : ℚ) → a ≤ℚ a
reflexive a = Order.reflexive ordered_rationals a

pub transitive : {a b c : ℚ} → a ≤ℚ b → b ≤ℚ c → a ≤ℚ c
transitive {a} {b} {c} h k = FractionOrder.transitive a b c h k

pub below_then_at_most : {a b c : ℚ} → a <ℚ b → b ≤ℚ c → a <ℚ c
below_then_at_most {a} {b} {c} h k = Order.below_then_at_most ordered_rationals a b c h k

pub at_most_then_below : {a b c : ℚ} → a ≤ℚ b → b <ℚ c → a <ℚ c
at_most_then_below {a} {b} {c} h k = Order.at_most_then_below ordered_rationals a b c h k

-- by cases: a is at most b, or b is below a
pub decide : {X : Type 0} (a b : ℚ) → (a ≤ℚ b → X) → (b <ℚ a → X) → X
decide a b f g = Order.decide ordered_rationals a b f g

-- ---- inverses
-- a factor other than zero may be left out
pub cancel : {x y : ℚ} (a : ℚ) → ¬ (a ≡ whole (pos 0)) → a *ℚ x ≡ a *ℚ y → x ≡ y
cancel a n e = Order.cancel field_of_rationals a n e

-- the equation a x = b has the solution b / a, and no other
pub solution_is : (a b : ℚ) → ¬ (a ≡ whole (pos 0)) → a *ℚ (b /ℚ a) ≡ b
unfolding ◌/ℚ◌
solution_is a b n = from₁ b (field_of_rationals.product_inverse a n) (by_ring (a ∷ inverse a ∷ b ∷ []) (search quotes depth 20) refl)

pub solution_only : (a b x : ℚ) → ¬ (a ≡ whole (pos 0)) → a *ℚ x ≡ b → x ≡ b /ℚ a
solution_only a b x n e = cancel a n (e ∙ sym (solution_is a b n))

pub not_zero : {a : ℚ} → whole (pos 0) <ℚ a → ¬ (a ≡ whole (pos 0))
not_zero {a} h e = Order.irreflexive ordered_rationals (whole (pos 0)) (subst (λ s. whole (pos 0) <ℚ s) e h)

pub inverse_positive : {a : ℚ} → whole (pos 0) <ℚ a → whole (pos 0) <ℚ inverse a
inverse_positive {a} h = below_over h (positive_number 0)
    (from₁ (whole (pos 1)) (field_of_rationals.product_inverse a (not_zero h)) (by_ring (a ∷ inverse a ∷ []) (search quotes depth 20) refl))

-- a fraction is the one number whose product with its denominator is its numerator
pub fraction_times : (n d : ℤ) → pos 0 <ℤ d → whole d *ℚ fraction n d ≡ whole n
unfolding fraction
fraction_times n d h = solution_is (whole d) (whole n) (not_zero ((whole-lt (pos 0) d).1 h))

pub fraction_only : (n d : ℤ) (x : ℚ) → pos 0 <ℤ d → whole d *ℚ x ≡ whole n → x ≡ fraction n d
unfolding fraction
fraction_only n d x h e = solution_only (whole d) (whole n) x (not_zero ((whole-lt (pos 0) d).1 h)) e
