-- The normal form of an expression: terms in ascending order, a monomial being one number to the base 256.
use Rattle.std.proofs.Common.{ℕ, zero, suc, ◌+◌, ◌^◌, ℤ, pos, negsuc, ◌+ℤ◌, ◌*ℤ◌, ltb, true, false}
use Prim.Native.Nat.{compare, Ordering}
use Rattle.lam_fraction.proofs.Expression.{Expr, var, int, ◌⊕◌, ◌⊖◌, ◌⊗◌, minus, ◌↑◌, degree}

-- A sum of terms: the power of unknown i is the digit i of the monomial, to the base 256.
pub data Poly : Type 0 where
  nil : Poly
  term : ℕ → ℤ → Poly → Poly

-- A term with its coefficient in front of a sum; none for the coefficient 0.
abbrev pub put : ℕ → ℤ → Poly → Poly
put m (pos zero) p = p
put m (pos (suc n)) p = term m (pos (suc n)) p
put m (negsuc n) p = term m (negsuc n) p

-- The term merged into the third sum, whose rest is summed by `f`.
abbrev pub merge : ℕ → ℤ → (Poly → Poly) → Poly → Poly
merge m a f nil = term m a (f nil)
merge m a f (term n b q) = elim (compare m n) [ Ordering.lt ↦ term m a (f (term n b q)) | Ordering.eq ↦ put m (a +ℤ b) (f q) | Ordering.gt ↦ term n b (merge m a f q) ]

abbrev pub plus : Poly → Poly → Poly
plus nil q = q
plus (term m a p) q = merge m a (plus p) q

abbrev pub scale : ℕ → ℤ → Poly → Poly
scale m a nil = nil
scale m a (term n b q) = term (m + n) (a *ℤ b) (scale m a q)

abbrev pub times : Poly → Poly → Poly
times nil q = nil
times (term m a p) q = plus (scale m a q) (times p q)

abbrev pub raise : Poly → ℕ → Poly
raise p zero = term 0 (pos 1) nil
raise p (suc n) = times p (raise p n)

-- A product goes through the terms of its right factor, which in a chain of products is the short one.
abbrev pub norm : Expr → Poly
norm (var i) = term (256 ^ i) (pos 1) nil
norm (int n) = put 0 n nil
norm (a ⊕ b) = plus (norm a) (norm b)
norm (a ⊖ b) = plus (norm a) (scale 0 (negsuc 0) (norm b))
norm (a ⊗ b) = times (norm b) (norm a)
norm (minus a) = scale 0 (negsuc 0) (norm a)
norm (a ↑ n) = raise (norm a) n

-- The normal form of the difference: no term is left just where the two are one polynomial. From the degree 256 on a digit could carry, so the answer is 1.
abbrev pub gap : Expr → Expr → Poly
gap a b = elim (ltb (degree (a ⊖ b)) 256) [ true ↦ norm (a ⊖ b) | false ↦ term 0 (pos 1) nil ]
