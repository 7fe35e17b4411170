-- Expressions in numbered unknowns, and their values in a ring.
use Rattle.std.proofs.Common.{ℕ, zero, suc, ◌+◌, ◌*◌, max, ℤ, pos, List, [], ◌∷◌}
use Rattle.lam_fraction.proofs.Ring.{Ring}

infixl 6 ◌⊕◌ ◌⊖◌
infixl 7 ◌⊗◌
infixr 8 ◌↑◌
pub data Expr : Type 0 where
  var : ℕ → Expr
  int : ℤ → Expr
  ◌⊕◌ : Expr → Expr → Expr
  ◌⊖◌ : Expr → Expr → Expr
  ◌⊗◌ : Expr → Expr → Expr
  minus : Expr → Expr
  ◌↑◌ : Expr → ℕ → Expr

-- A bound of the power of any unknown.
abbrev pub degree : Expr → ℕ
degree (var i) = 1
degree (int n) = 0
degree (a ⊕ b) = max (degree a) (degree b)
degree (a ⊖ b) = max (degree a) (degree b)
degree (a ⊗ b) = degree a + degree b
degree (minus a) = degree a
degree (a ↑ n) = n * degree a

module _ (R : Ring) where
  open R use {Carrier, ◌⊞◌, ◌⊡◌, opposite, image}

  -- The product of n copies of x: x, then x ⊡ x, then (x ⊡ x) ⊡ x.
  abbrev pub power : Carrier → ℕ → Carrier
  power x zero = image (pos 1)
  power x (suc zero) = x
  power x (suc (suc n)) = power x (suc n) ⊡ x

  -- The unknown of number i; one past the list's end counts as 1.
  abbrev pub unknown : List Carrier → ℕ → Carrier
  unknown [] i = image (pos 1)
  unknown (x ∷ xs) zero = x
  unknown (x ∷ xs) (suc i) = unknown xs i

  -- The value of an expression at these unknowns.
  abbrev pub eval : List Carrier → Expr → Carrier
  eval xs (var i) = unknown xs i
  eval xs (int n) = image n
  eval xs (a ⊕ b) = eval xs a ⊞ eval xs b
  eval xs (a ⊖ b) = eval xs a ⊞ opposite (eval xs b)
  eval xs (a ⊗ b) = eval xs a ⊡ eval xs b
  eval xs (minus a) = opposite (eval xs a)
  eval xs (a ↑ n) = power (eval xs a) n
