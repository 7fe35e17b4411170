-- The solver over any commutative ring: identities read off the goal or written as formulas, and combinations of equations.
use Rattle.std.proofs.Common.{◌≡◌, refl, sym, ◌∙◌, ap, ap₂, ℕ, zero, suc, ℤ, pos, List, [], ◌∷◌}
use Rattle.lam_fraction.proofs.Ring.{Ring}
use Rattle.lam_fraction.proofs.Expression.{Expr, var, int, ◌⊕◌, ◌⊗◌, minus, eval}
use Rattle.lam_fraction.proofs.Normaliser.{Poly, nil, gap}
use Rattle.lam_fraction.proofs.Soundness.{ring}

-- An expression whose value at these unknowns is x.
pub record Quote (R : Ring) (xs : List R.Carrier) (x : R.Carrier) : Type 0 where
  pub expr : Expr
  pub is : eval R xs expr ≡ x

-- The two sides of an equation.
pub record Quotes (R : Ring) (xs : List R.Carrier) (a b : R.Carrier) : Type 0 where
  pub left : Quote R xs a
  pub right : Quote R xs b

abbrev pub quote_sides : {R : Ring} {xs : List R.Carrier} {a b : R.Carrier} → Quote R xs a → Quote R xs b → Quotes R xs a b
quote_sides p q = record { left = p; right = q }

pub sum_is : {R : Ring} {xs : List R.Carrier} {x y : R.Carrier} (p : Quote R xs x) (q : Quote R xs y) → eval R xs (p.expr ⊕ q.expr) ≡ R.◌⊞◌ x y
sum_is {R} p q = ap₂ R.◌⊞◌ p.is q.is

pub product_is : {R : Ring} {xs : List R.Carrier} {x y : R.Carrier} (p : Quote R xs x) (q : Quote R xs y) → eval R xs (p.expr ⊗ q.expr) ≡ R.◌⊡◌ x y
product_is {R} p q = ap₂ R.◌⊡◌ p.is q.is

pub minus_is : {R : Ring} {xs : List R.Carrier} {x : R.Carrier} (p : Quote R xs x) → eval R xs (minus p.expr) ≡ R.opposite x
minus_is {R} p = ap R.opposite p.is

abbrev pub quote_sum : {R : Ring} {xs : List R.Carrier} {x y : R.Carrier} → Quote R xs x → Quote R xs y → Quote R xs (R.◌⊞◌ x y)
quote_sum p q = record { expr = p.expr ⊕ q.expr; is = sum_is p q }

abbrev pub quote_product : {R : Ring} {xs : List R.Carrier} {x y : R.Carrier} → Quote R xs x → Quote R xs y → Quote R xs (R.◌⊡◌ x y)
quote_product p q = record { expr = p.expr ⊗ q.expr; is = product_is p q }

abbrev pub quote_minus : {R : Ring} {xs : List R.Carrier} {x : R.Carrier} → Quote R xs x → Quote R xs (R.opposite x)
quote_minus p = record { expr = minus p.expr; is = minus_is p }

abbrev pub quote_image : {R : Ring} {xs : List R.Carrier} (n : ℤ) → Quote R xs (R.image n)
quote_image n = record { expr = int n; is = refl }

abbrev pub quote_0 : {R : Ring} {x0 : R.Carrier} {xs : List R.Carrier} → Quote R (x0 ∷ xs) x0
quote_0 = record { expr = var 0; is = refl }

abbrev pub quote_1 : {R : Ring} {x0 x1 : R.Carrier} {xs : List R.Carrier} → Quote R (x0 ∷ x1 ∷ xs) x1
quote_1 = record { expr = var 1; is = refl }

abbrev pub quote_2 : {R : Ring} {x0 x1 x2 : R.Carrier} {xs : List R.Carrier} → Quote R (x0 ∷ x1 ∷ x2 ∷ xs) x2
quote_2 = record { expr = var 2; is = refl }

abbrev pub quote_3 : {R : Ring} {x0 x1 x2 x3 : R.Carrier} {xs : List R.Carrier} → Quote R (x0 ∷ x1 ∷ x2 ∷ x3 ∷ xs) x3
quote_3 = record { expr = var 3; is = refl }

abbrev pub quote_4 : {R : Ring} {x0 x1 x2 x3 x4 : R.Carrier} {xs : List R.Carrier} → Quote R (x0 ∷ x1 ∷ x2 ∷ x3 ∷ x4 ∷ xs) x4
quote_4 = record { expr = var 4; is = refl }

abbrev pub quote_5 : {R : Ring} {x0 x1 x2 x3 x4 x5 : R.Carrier} {xs : List R.Carrier} → Quote R (x0 ∷ x1 ∷ x2 ∷ x3 ∷ x4 ∷ x5 ∷ xs) x5
quote_5 = record { expr = var 5; is = refl }

abbrev pub quote_6 : {R : Ring} {x0 x1 x2 x3 x4 x5 x6 : R.Carrier} {xs : List R.Carrier} → Quote R (x0 ∷ x1 ∷ x2 ∷ x3 ∷ x4 ∷ x5 ∷ x6 ∷ xs) x6
quote_6 = record { expr = var 6; is = refl }

abbrev pub quote_7 : {R : Ring} {x0 x1 x2 x3 x4 x5 x6 x7 : R.Carrier} {xs : List R.Carrier} → Quote R (x0 ∷ x1 ∷ x2 ∷ x3 ∷ x4 ∷ x5 ∷ x6 ∷ x7 ∷ xs) x7
quote_7 = record { expr = var 7; is = refl }

abbrev pub quote_8 : {R : Ring} {x0 x1 x2 x3 x4 x5 x6 x7 x8 : R.Carrier} {xs : List R.Carrier} → Quote R (x0 ∷ x1 ∷ x2 ∷ x3 ∷ x4 ∷ x5 ∷ x6 ∷ x7 ∷ x8 ∷ xs) x8
quote_8 = record { expr = var 8; is = refl }

abbrev pub quote_9 : {R : Ring} {x0 x1 x2 x3 x4 x5 x6 x7 x8 x9 : R.Carrier} {xs : List R.Carrier} → Quote R (x0 ∷ x1 ∷ x2 ∷ x3 ∷ x4 ∷ x5 ∷ x6 ∷ x7 ∷ x8 ∷ x9 ∷ xs) x9
quote_9 = record { expr = var 9; is = refl }

abbrev pub quote_10 : {R : Ring} {x0 x1 x2 x3 x4 x5 x6 x7 x8 x9 x10 : R.Carrier} {xs : List R.Carrier} → Quote R (x0 ∷ x1 ∷ x2 ∷ x3 ∷ x4 ∷ x5 ∷ x6 ∷ x7 ∷ x8 ∷ x9 ∷ x10 ∷ xs) x10
quote_10 = record { expr = var 10; is = refl }

abbrev pub quote_11 : {R : Ring} {x0 x1 x2 x3 x4 x5 x6 x7 x8 x9 x10 x11 : R.Carrier} {xs : List R.Carrier} → Quote R (x0 ∷ x1 ∷ x2 ∷ x3 ∷ x4 ∷ x5 ∷ x6 ∷ x7 ∷ x8 ∷ x9 ∷ x10 ∷ x11 ∷ xs) x11
quote_11 = record { expr = var 11; is = refl }

abbrev pub quote_12 : {R : Ring} {x0 x1 x2 x3 x4 x5 x6 x7 x8 x9 x10 x11 x12 : R.Carrier} {xs : List R.Carrier} → Quote R (x0 ∷ x1 ∷ x2 ∷ x3 ∷ x4 ∷ x5 ∷ x6 ∷ x7 ∷ x8 ∷ x9 ∷ x10 ∷ x11 ∷ x12 ∷ xs) x12
quote_12 = record { expr = var 12; is = refl }

abbrev pub quote_13 : {R : Ring} {x0 x1 x2 x3 x4 x5 x6 x7 x8 x9 x10 x11 x12 x13 : R.Carrier} {xs : List R.Carrier} → Quote R (x0 ∷ x1 ∷ x2 ∷ x3 ∷ x4 ∷ x5 ∷ x6 ∷ x7 ∷ x8 ∷ x9 ∷ x10 ∷ x11 ∷ x12 ∷ x13 ∷ xs) x13
quote_13 = record { expr = var 13; is = refl }

abbrev pub quote_14 : {R : Ring} {x0 x1 x2 x3 x4 x5 x6 x7 x8 x9 x10 x11 x12 x13 x14 : R.Carrier} {xs : List R.Carrier} → Quote R (x0 ∷ x1 ∷ x2 ∷ x3 ∷ x4 ∷ x5 ∷ x6 ∷ x7 ∷ x8 ∷ x9 ∷ x10 ∷ x11 ∷ x12 ∷ x13 ∷ x14 ∷ xs) x14
quote_14 = record { expr = var 14; is = refl }

abbrev pub quote_15 : {R : Ring} {x0 x1 x2 x3 x4 x5 x6 x7 x8 x9 x10 x11 x12 x13 x14 x15 : R.Carrier} {xs : List R.Carrier} → Quote R (x0 ∷ x1 ∷ x2 ∷ x3 ∷ x4 ∷ x5 ∷ x6 ∷ x7 ∷ x8 ∷ x9 ∷ x10 ∷ x11 ∷ x12 ∷ x13 ∷ x14 ∷ x15 ∷ xs) x15
quote_15 = record { expr = var 15; is = refl }

pub ruleset unknowns = (quote_0, quote_1, quote_2, quote_3, quote_4, quote_5, quote_6, quote_7, quote_8, quote_9, quote_10, quote_11, quote_12, quote_13, quote_14, quote_15)

pub ruleset quotes = (quote_sides, quote_sum, quote_product, quote_minus, quote_image, unknowns)

-- An identity, read off the goal: `by_ring R (a ∷ b ∷ []) (search quotes depth 20) refl`, with the unknowns in the list.
pub by_ring : (R : Ring) (xs : List R.Carrier) {a b : R.Carrier} (q : Quotes R xs a b) → gap q.left.expr q.right.expr ≡ nil → a ≡ b
by_ring R xs q g = sym q.left.is ∙ ring R xs q.left.expr q.right.expr g ∙ q.right.is

infix 4 ◌≐◌
pub data Equation : Type 0 where
  ◌≐◌ : Expr → Expr → Equation

-- An equation in n unknowns.
abbrev pub Formula : ℕ → Type 0
Formula zero = Equation
Formula (suc n) = Expr → Formula n

-- The equation at the unknowns from number i on.
abbrev pub at_unknowns : (n : ℕ) → ℕ → Formula n → Equation
at_unknowns zero i f = f
at_unknowns (suc n) i f = at_unknowns n (suc i) (f (var i))

abbrev pub gap_of : Equation → Poly
gap_of (a ≐ b) = gap a b

abbrev pub Holds : (R : Ring) → List R.Carrier → Equation → Type 0
Holds R xs (a ≐ b) = eval R xs a ≡ eval R xs b

-- The equation holds for all n further unknowns, behind those that `front` puts first.
abbrev pub Always : (R : Ring) → ℕ → (List R.Carrier → List R.Carrier) → Equation → Type 0
Always R zero front e = Holds R (front []) e
Always R (suc n) front e = (x : R.Carrier) → Always R n (λ xs. front (x ∷ xs)) e

holds : (R : Ring) (xs : List R.Carrier) (e : Equation) → gap_of e ≡ nil → Holds R xs e
holds R xs (a ≐ b) g = ring R xs a b g

always : (R : Ring) (n : ℕ) (front : List R.Carrier → List R.Carrier) (e : Equation) → gap_of e ≡ nil → Always R n front e
always R zero front e g = holds R (front []) e g
always R (suc n) front e g = λ x. always R n (λ xs. front (x ∷ xs)) e g

-- An identity, written again over expressions: `solve R 2 (λ x y. x ⊗ y ≐ y ⊗ x) refl`.
pub solve : (R : Ring) (n : ℕ) (f : Formula n) → gap_of (at_unknowns n 0 f) ≡ nil → Always R n (λ xs. xs) (at_unknowns n 0 f)
solve R n f g = always R n (λ xs. xs) (at_unknowns n 0 f) g

-- ---- an equation that follows from others: a is b with multiples of their differences. More than three by nesting: `from₁ c e (from₃ ..)`
module _ (R : Ring) where
  open R use {Carrier, ◌⊞◌, ◌⊡◌, opposite, image}

  difference_is_zero : {x y : Carrier} → x ≡ y → x ⊞ opposite y ≡ image (pos 0)
  difference_is_zero {x} {y} e = ap (λ s. s ⊞ opposite y) e ∙ R.sum_opposite y

  drop_multiple : (b c : Carrier) {x y : Carrier} → x ≡ y → b ⊞ (c ⊡ (x ⊞ opposite y)) ≡ b
  drop_multiple b c e = ap (λ s. b ⊞ (c ⊡ s)) (difference_is_zero e) ∙ solve R 2 (λ b c. b ⊕ c ⊗ int (pos 0) ≐ b) refl b c

  pub from₁ : {a b x y : Carrier} (c : Carrier) → x ≡ y → a ≡ b ⊞ (c ⊡ (x ⊞ opposite y)) → a ≡ b
  from₁ {b = b} c e h = h ∙ drop_multiple b c e

  pub from₂ : {a b x₁ y₁ x₂ y₂ : Carrier} (c₁ : Carrier) → x₁ ≡ y₁ → (c₂ : Carrier) → x₂ ≡ y₂
      → a ≡ (b ⊞ (c₁ ⊡ (x₁ ⊞ opposite y₁))) ⊞ (c₂ ⊡ (x₂ ⊞ opposite y₂)) → a ≡ b
  from₂ c₁ e₁ c₂ e₂ h = from₁ c₁ e₁ (from₁ c₂ e₂ h)

  pub from₃ : {a b x₁ y₁ x₂ y₂ x₃ y₃ : Carrier} (c₁ : Carrier) → x₁ ≡ y₁ → (c₂ : Carrier) → x₂ ≡ y₂ → (c₃ : Carrier) → x₃ ≡ y₃
      → a ≡ ((b ⊞ (c₁ ⊡ (x₁ ⊞ opposite y₁))) ⊞ (c₂ ⊡ (x₂ ⊞ opposite y₂))) ⊞ (c₃ ⊡ (x₃ ⊞ opposite y₃)) → a ≡ b
  from₃ c₁ e₁ c₂ e₂ c₃ e₃ h = from₂ c₁ e₁ c₂ e₂ (from₁ c₃ e₃ h)
