-- Bounds of a polynomial in whole numbers from those of its unknowns, by computing.
use Rattle.std.proofs.Common.{refl, subst, ℕ, zero, suc, ◌^◌, ℤ, pos, ◌+ℤ◌, ◌*ℤ◌, neg_ℤ, ◌≤ℤ◌, ◌<ℤ◌, List, [], ◌∷◌, T, Bool, true, false, ◌&&◌, arith, SFits, ◌⊎◌, inl, inr}
use Rattle.std.proofs.lemmas.Int.{ints, clamps}
use Rattle.std.specs.Int.{int_max, int_min}
use lib.Signed.{le_z, lt_z, le_z_yes, lt_z_yes, ≤ℤ_refl}
use mir.Syntax.{Width}
use mir.Val.{hbits}
use Rattle.lam_fraction.proofs.Laws as Laws
use Rattle.lam_fraction.proofs.Laws.{integers}
use Rattle.lam_fraction.proofs.Expression.{Expr, var, int, ◌⊕◌, ◌⊖◌, ◌⊗◌, minus, ◌↑◌, unknown, eval, power}
use Rattle.lam_fraction.proofs.Solver.{Quote}
use Rattle.lam_fraction.proofs.Integers as Z
use Rattle.lam_fraction.proofs.Integers.{solve, at_most, above, ◌*ₙ◌}
use Rattle.lam_fraction.proofs.Solver.{◌≐◌}

-- The whole numbers from the low end to the high end.
pub record Range : Type 0 where
  pub low : ℤ
  pub high : ℤ

-- From -n to n.
abbrev pub within : ℕ → Range
within n = record { low = neg_ℤ (pos n); high = pos n }

-- From 0 to n.
abbrev pub up_to : ℕ → Range
up_to n = record { low = pos 0; high = pos n }

abbrev pub Lies : ℤ → Range → Type 0
Lies z r = (r.low ≤ℤ z) × (z ≤ℤ r.high)

-- Each unknown lies in the range of its place.
abbrev pub Lie : List ℤ → List Range → Type 0
Lie [] [] = Unit {0}
Lie [] (r ∷ rs) = ⊥
Lie (x ∷ xs) [] = ⊥
Lie (x ∷ xs) (r ∷ rs) = (r.low ≤ℤ x) × (x ≤ℤ r.high) × Lie xs rs

abbrev pub sum_range : Range → Range → Range
sum_range r s = record { low = r.low +ℤ s.low; high = r.high +ℤ s.high }

abbrev pub minus_range : Range → Range
minus_range r = record { low = neg_ℤ r.high; high = neg_ℤ r.low }

-- The least and the greatest of the products of the ends.
abbrev pub product_range : Range → Range → Range
product_range r s = record {
  low = int_min (int_min (r.low *ℤ s.low) (r.low *ℤ s.high)) (int_min (r.high *ℤ s.low) (r.high *ℤ s.high));
  high = int_max (int_max (r.low *ℤ s.low) (r.low *ℤ s.high)) (int_max (r.high *ℤ s.low) (r.high *ℤ s.high));
}

-- The range of a power, as of a product of copies.
abbrev pub power_range : Range → ℕ → Range
power_range r zero = record { low = pos 1; high = pos 1 }
power_range r (suc zero) = r
power_range r (suc (suc n)) = product_range (power_range r (suc n)) r

abbrev pub range_at : List Range → ℕ → Range
range_at [] i = record { low = pos 1; high = pos 1 }
range_at (r ∷ rs) zero = r
range_at (r ∷ rs) (suc i) = range_at rs i

-- The range of an expression whose unknowns lie in these.
abbrev pub range : List Range → Expr → Range
range rs (var i) = range_at rs i
range rs (int n) = record { low = n; high = n }
range rs (a ⊕ b) = sum_range (range rs a) (range rs b)
range rs (a ⊖ b) = sum_range (range rs a) (minus_range (range rs b))
range rs (a ⊗ b) = product_range (range rs a) (range rs b)
range rs (minus a) = minus_range (range rs a)
range rs (a ↑ n) = power_range (range rs a) n

-- ---- it holds the value
lies_sum : (x y : ℤ) (r s : Range) → Lies x r → Lies y s → Lies (x +ℤ y) (sum_range r s)
lies_sum x y r s h k = omega (arith, ints)

lies_minus : (x : ℤ) (r : Range) → Lies x r → Lies (neg_ℤ x) (minus_range r)
lies_minus x r h = omega (arith, ints)

-- a product with a fixed factor lies between those of the ends
between : (k l h x : ℤ) → l ≤ℤ x → x ≤ℤ h → (int_min (k *ℤ l) (k *ℤ h) ≤ℤ (k *ℤ x)) × ((k *ℤ x) ≤ℤ int_max (k *ℤ l) (k *ℤ h))
between k l h x p q = go (Laws.either (pos 0) k)
  where
    go : (pos 0 ≤ℤ k) ⊎ (k <ℤ pos 0) → (int_min (k *ℤ l) (k *ℤ h) ≤ℤ (k *ℤ x)) × ((k *ℤ x) ≤ℤ int_max (k *ℤ l) (k *ℤ h))
    go (inl n) =
        let a : (k *ℤ l) ≤ℤ (k *ℤ x) = Z.with_factor k n p in
        let b : (k *ℤ x) ≤ℤ (k *ℤ h) = Z.with_factor k n q in
        omega (arith, ints, clamps)
    go (inr n) =
        let a : (k *ℤ x) ≤ℤ (k *ℤ l) = at_most (above (Z.weaken n) *ₙ above p) (solve 3 (λ k l x. k ⊗ l ⊖ k ⊗ x ≐ (int (pos 0) ⊖ k) ⊗ (x ⊖ l)) refl k l x) in
        let b : (k *ℤ h) ≤ℤ (k *ℤ x) = at_most (above (Z.weaken n) *ₙ above q) (solve 3 (λ k h x. k ⊗ x ⊖ k ⊗ h ≐ (int (pos 0) ⊖ k) ⊗ (h ⊖ x)) refl k h x) in
        omega (arith, ints, clamps)

-- the product of two intervals
pub lies_product : (x y : ℤ) (r s : Range) → Lies x r → Lies y s → Lies (x *ℤ y) (product_range r s)
lies_product x y r s h k =
    let a : (int_min (y *ℤ r.low) (y *ℤ r.high) ≤ℤ (y *ℤ x)) × ((y *ℤ x) ≤ℤ int_max (y *ℤ r.low) (y *ℤ r.high)) = between y r.low r.high x h.0 h.1 in
    let b : (int_min (r.low *ℤ s.low) (r.low *ℤ s.high) ≤ℤ (r.low *ℤ y)) × ((r.low *ℤ y) ≤ℤ int_max (r.low *ℤ s.low) (r.low *ℤ s.high)) = between r.low s.low s.high y k.0 k.1 in
    let c : (int_min (r.high *ℤ s.low) (r.high *ℤ s.high) ≤ℤ (r.high *ℤ y)) × ((r.high *ℤ y) ≤ℤ int_max (r.high *ℤ s.low) (r.high *ℤ s.high)) = between r.high s.low s.high y k.0 k.1 in
    omega (arith, ints, clamps)

lies_power : (x : ℤ) (r : Range) (n : ℕ) → Lies x r → Lies (power integers x n) (power_range r n)
lies_power x r zero h = (≤ℤ_refl (pos 1), ≤ℤ_refl (pos 1))
lies_power x r (suc zero) h = h
lies_power x r (suc (suc n)) h = lies_product (power integers x (suc n)) x (power_range r (suc n)) r (lies_power x r (suc n) h) h

lies_unknown : (xs : List ℤ) (rs : List Range) (i : ℕ) → Lie xs rs → Lies (unknown integers xs i) (range_at rs i)
lies_unknown [] [] i h = (≤ℤ_refl (pos 1), ≤ℤ_refl (pos 1))
lies_unknown [] (r ∷ rs) i h = absurd h
lies_unknown (x ∷ xs) [] i h = absurd h
lies_unknown (x ∷ xs) (r ∷ rs) zero h = (h.0, h.1)
lies_unknown (x ∷ xs) (r ∷ rs) (suc i) h = lies_unknown xs rs i h.2

lies_value : (xs : List ℤ) (rs : List Range) (e : Expr) → Lie xs rs → Lies (eval integers xs e) (range rs e)
lies_value xs rs (var i) h = lies_unknown xs rs i h
lies_value xs rs (int n) h = (≤ℤ_refl n, ≤ℤ_refl n)
lies_value xs rs (a ⊕ b) h = lies_sum (eval integers xs a) (eval integers xs b) (range rs a) (range rs b) (lies_value xs rs a h) (lies_value xs rs b h)
lies_value xs rs (a ⊖ b) h =
    lies_sum (eval integers xs a) (neg_ℤ (eval integers xs b)) (range rs a) (minus_range (range rs b)) (lies_value xs rs a h)
    (lies_minus (eval integers xs b) (range rs b) (lies_value xs rs b h))
lies_value xs rs (a ⊗ b) h = lies_product (eval integers xs a) (eval integers xs b) (range rs a) (range rs b) (lies_value xs rs a h) (lies_value xs rs b h)
lies_value xs rs (minus a) h = lies_minus (eval integers xs a) (range rs a) (lies_value xs rs a h)
lies_value xs rs (a ↑ n) h = lies_power (eval integers xs a) (range rs a) n (lies_value xs rs a h)

-- ---- use
-- The polynomial z of these unknowns lies in the range that is computed.
pub lies : (xs : List ℤ) (rs : List Range) {z : ℤ} → Lie xs rs → (q : Quote integers xs z) → Lies z (range rs q.expr)
lies xs rs h q = subst (λ y. Lies y (range rs q.expr)) q.is (lies_value xs rs q.expr h)

abbrev pub within_bits : ℕ → Range → Bool
within_bits n r = le_z (neg_ℤ (pos n)) r.low && lt_z r.high (pos n)

fits : (w : Width) (z : ℤ) (r : Range) → Lies z r → (neg_ℤ (pos (2 ^ hbits w)) ≤ℤ r.low) → (r.high <ℤ pos (2 ^ hbits w)) → SFits w z
fits w z r h k l = omega (arith, ints)

both : (a b : Bool) → T (a && b) → T a × T b
both true true t = (tt, tt)
both true false t = absurd t
both false b t = absurd t

-- A polynomial fits a signed width: `in_range (x ∷ y ∷ []) (within 1000 ∷ up_to 9 ∷ []) (assumption) (search quotes depth 20) tt`.
pub in_range : (xs : List ℤ) (rs : List Range) {w : Width} {z : ℤ} → Lie xs rs → (q : Quote integers xs z) → T (within_bits (2 ^ hbits w) (range rs q.expr)) → SFits w z
in_range xs rs {w} {z} h q t =
    let p : T (le_z (neg_ℤ (pos (2 ^ hbits w))) (range rs q.expr).low) × T (lt_z (range rs q.expr).high (pos (2 ^ hbits w)))
    = both (le_z (neg_ℤ (pos (2 ^ hbits w))) (range rs q.expr).low) (lt_z (range rs q.expr).high (pos (2 ^ hbits w))) t in
    fits w z (range rs q.expr) (lies xs rs h q) (le_z_yes p.0) (lt_z_yes p.1)

-- Its bounds, at literals: `at_least_in_range (x ∷ []) (up_to 9 ∷ []) (assumption) (search quotes depth 20) tt`.
pub at_least_in_range : (xs : List ℤ) (rs : List Range) {l z : ℤ} → Lie xs rs → (q : Quote integers xs z) → T (le_z l (range rs q.expr).low) → l ≤ℤ z
at_least_in_range xs rs {l} {z} h q t = Laws.transitive l (range rs q.expr).low z (le_z_yes t) (lies xs rs h q).0

pub at_most_in_range : (xs : List ℤ) (rs : List Range) {g z : ℤ} → Lie xs rs → (q : Quote integers xs z) → T (le_z (range rs q.expr).high g) → z ≤ℤ g
at_most_in_range xs rs {g} {z} h q t = Laws.transitive z (range rs q.expr).high g (lies xs rs h q).1 (le_z_yes t)
