-- A sum of linear combinations with fixed factors is that combination of the sums.
use Rattle.std.proofs.Common.{◌≡◌, refl, ◌∙◌, ap, pos, List, [], ◌∷◌}
use Rattle.lam_fraction.specs.Fraction.{ℚ, ◌+ℚ◌, ◌*ℚ◌, ◌-ℚ◌, ◌/ℚ◌}
use Rattle.lam_fraction.specs.Sums.{sum_over}
use Rattle.lam_fraction.proofs.Expression.{int, ◌⊕◌, ◌⊗◌}
use Rattle.lam_fraction.proofs.Solver.{◌≐◌}
use Rattle.lam_fraction.proofs.Rationals.{solve}

-- the linear form of a row of three
abbrev pub row : ℚ → ℚ → ℚ → ℚ → ℚ → ℚ → ℚ
row q r s x y z = q *ℚ x +ℚ r *ℚ y +ℚ s *ℚ z

-- a multiple of the sum of two
abbrev pub combined : ℚ → ℚ → ℚ → ℚ → ℚ → ℚ → ℚ → ℚ → ℚ → ℚ → ℚ → ℚ → ℚ → ℚ
combined n a b c d e f u v w x y z = n *ℚ (row a b c u v w +ℚ row d e f x y z)

-- ---- sums over a list
pub sum-row : {A : Type 0} (a b c : A → ℚ) (u v w : ℚ) (ps : List A)
    → sum_over (λ p. row (a p) (b p) (c p) u v w) ps ≡ row (sum_over a ps) (sum_over b ps) (sum_over c ps) u v w
unfolding ◌-ℚ◌ ◌/ℚ◌
sum-row a b c u v w [] = solve 3 (λ u v w. int (pos 0) ≐ int (pos 0) ⊗ u ⊕ int (pos 0) ⊗ v ⊕ int (pos 0) ⊗ w) refl u v w
sum-row a b c u v w (p ∷ ps) =
    ap (λ s. row (a p) (b p) (c p) u v w +ℚ s) (sum-row a b c u v w ps)
    ∙ solve 9 (λ u v w a b c i j k. (a ⊗ u ⊕ b ⊗ v ⊕ c ⊗ w) ⊕ (i ⊗ u ⊕ j ⊗ v ⊕ k ⊗ w) ≐ (a ⊕ i) ⊗ u ⊕ (b ⊕ j) ⊗ v ⊕ (c ⊕ k) ⊗ w) refl
    u v w (a p) (b p) (c p) (sum_over a ps) (sum_over b ps) (sum_over c ps)

pub sum-combined : {A : Type 0} (n : ℚ) (a b c d e f : A → ℚ) (u v w x y z : ℚ) (ps : List A)
    → sum_over (λ p. combined n (a p) (b p) (c p) (d p) (e p) (f p) u v w x y z) ps
    ≡ combined n (sum_over a ps) (sum_over b ps) (sum_over c ps) (sum_over d ps) (sum_over e ps) (sum_over f ps) u v w x y z
unfolding ◌-ℚ◌ ◌/ℚ◌
sum-combined n a b c d e f u v w x y z [] =
    solve 7 (λ n u v w x y z. int (pos 0)
    ≐ n ⊗ ((int (pos 0) ⊗ u ⊕ int (pos 0) ⊗ v ⊕ int (pos 0) ⊗ w) ⊕ (int (pos 0) ⊗ x ⊕ int (pos 0) ⊗ y ⊕ int (pos 0) ⊗ z))) refl
    n u v w x y z
sum-combined n a b c d e f u v w x y z (p ∷ ps) =
    ap (λ s. combined n (a p) (b p) (c p) (d p) (e p) (f p) u v w x y z +ℚ s) (sum-combined n a b c d e f u v w x y z ps)
    ∙ solve 19 (λ n u v w x y z a b c d e f i j k l m o.
    n ⊗ ((a ⊗ u ⊕ b ⊗ v ⊕ c ⊗ w) ⊕ (d ⊗ x ⊕ e ⊗ y ⊕ f ⊗ z)) ⊕ n ⊗ ((i ⊗ u ⊕ j ⊗ v ⊕ k ⊗ w) ⊕ (l ⊗ x ⊕ m ⊗ y ⊕ o ⊗ z))
    ≐ n ⊗ (((a ⊕ i) ⊗ u ⊕ (b ⊕ j) ⊗ v ⊕ (c ⊕ k) ⊗ w) ⊕ ((d ⊕ l) ⊗ x ⊕ (e ⊕ m) ⊗ y ⊕ (f ⊕ o) ⊗ z))) refl
    n u v w x y z (a p) (b p) (c p) (d p) (e p) (f p) (sum_over a ps) (sum_over b ps) (sum_over c ps) (sum_over d ps) (sum_over e ps) (sum_over f ps)
