-- A symmetric matrix whose work is above 0 at each strain but none has an inverse: its adjugate over its determinant.
use Rattle.std.proofs.Common.{◌≡◌, refl, subst, pos}
use Rattle.lam_fraction.specs.Fraction.{ℚ, whole, inverse, opposite, ◌+ℚ◌, ◌-ℚ◌, ◌*ℚ◌, ◌/ℚ◌, ◌<ℚ◌}
use Rattle.lam_fraction.proofs.Expression.{Expr, int, minus, ◌⊕◌, ◌⊖◌, ◌⊗◌}
use Rattle.lam_fraction.proofs.Solver.{◌≐◌}
use Rattle.lam_fraction.proofs.Rationals.{solve, from₁, below_over, below_then_at_most, positive_number, ◌*ₚ◌}
use Rattle.lam_fraction.proofs.FractionBounds.{times-inverse}
use Rattle.lam_stock.specs.PlyLaw.{OffAxis}
use Rattle.lam_lamina.specs.declared.stiffness.Sym3.{Sym3}
use Rattle.lam_lamina.specs.Stiffness.{stress_of, unit_x}
use Rattle.lam_stock.specs.Energy.{twice_energy, strain_squares}
use Rattle.lam_wall.proofs.MeanSquares.{x_at_most_squares, y_at_most_squares, s_at_most_squares}

abbrev pub adjugate : Sym3 ℚ → Sym3 ℚ
adjugate m = record {
  xx = m.yy *ℚ m.ss -ℚ m.ys *ℚ m.ys;
  xy = m.xs *ℚ m.ys -ℚ m.xy *ℚ m.ss;
  yy = m.xx *ℚ m.ss -ℚ m.xs *ℚ m.xs;
  xs = m.xy *ℚ m.ys -ℚ m.xs *ℚ m.yy;
  ys = m.xy *ℚ m.xs -ℚ m.xx *ℚ m.ys;
  ss = m.xx *ℚ m.yy -ℚ m.xy *ℚ m.xy;
}

abbrev pub determinant : Sym3 ℚ → ℚ
determinant m = m.xx *ℚ (adjugate m).xx +ℚ m.xy *ℚ (adjugate m).xy +ℚ m.xs *ℚ (adjugate m).xs

unfoldable pub inverted : Sym3 ℚ → Sym3 ℚ
inverted m =
    let i = inverse (determinant m) in
    let n = adjugate m in
    record { xx = i *ℚ n.xx; xy = i *ℚ n.xy; yy = i *ℚ n.yy; xs = i *ℚ n.xs; ys = i *ℚ n.ys; ss = i *ℚ n.ss }

-- the work is above 0 at each strain that has squares above 0
abbrev pub IsDefinite : Sym3 ℚ → Type 0
IsDefinite m = (v : OffAxis) → whole (pos 0) <ℚ strain_squares v → whole (pos 0) <ℚ twice_energy (stress_of m v) v

-- the second gives the strain of each stress by the first
abbrev pub Inverts : Sym3 ℚ → Sym3 ℚ → Type 0
Inverts m n = (v : OffAxis) → stress_of m (stress_of n v) ≡ v

-- ---- the work as a term of the solver, and the determinant
abbrev work_term : (a b c d e f x y s : Expr) → Expr
work_term a b c d e f x y s = (a ⊗ x ⊕ b ⊗ y ⊕ d ⊗ s) ⊗ x ⊕ (b ⊗ x ⊕ c ⊗ y ⊕ e ⊗ s) ⊗ y ⊕ (d ⊗ x ⊕ e ⊗ y ⊕ f ⊗ s) ⊗ s

abbrev determinant_term : (a b c d e f : Expr) → Expr
determinant_term a b c d e f = a ⊗ (c ⊗ f ⊖ e ⊗ e) ⊕ b ⊗ (d ⊗ e ⊖ b ⊗ f) ⊕ d ⊗ (b ⊗ e ⊖ d ⊗ c)

-- ---- the determinant is above 0, by the work at three strains

entry_above : (m : Sym3 ℚ) → IsDefinite m → whole (pos 0) <ℚ m.xx
unfolding ◌-ℚ◌ ◌/ℚ◌
entry_above m definite =
    let one = positive_number 0 in
    subst (λ s. whole (pos 0) <ℚ s)
    (solve 6 (λ a b c d e f. work_term a b c d e f (int (pos 1)) (int (pos 0)) (int (pos 0)) ≐ a) refl m.xx m.xy m.yy m.xs m.ys m.ss)
    (definite unit_x (below_then_at_most (one *ₚ one) (x_at_most_squares unit_x)))

minor_above : (m : Sym3 ℚ) → IsDefinite m → whole (pos 0) <ℚ (adjugate m).ss
unfolding ◌-ℚ◌ ◌/ℚ◌
minor_above m definite =
    let first = entry_above m definite in
    let v : OffAxis = record { x = opposite m.xy; y = m.xx; s = whole (pos 0) } in
    below_over first (definite v (below_then_at_most (first *ₚ first) (y_at_most_squares v)))
    (solve 6 (λ a b c d e f. a ⊗ (a ⊗ c ⊖ b ⊗ b ⊖ int (pos 0)) ≐ work_term a b c d e f (minus b) a (int (pos 0))) refl m.xx m.xy m.yy m.xs m.ys m.ss)

pub determinant_above : (m : Sym3 ℚ) → IsDefinite m → whole (pos 0) <ℚ determinant m
unfolding ◌-ℚ◌ ◌/ℚ◌
determinant_above m definite =
    let minor = minor_above m definite in
    let n = adjugate m in
    let v : OffAxis = record { x = n.xs; y = n.ys; s = n.ss } in
    let twice : whole (pos 0) <ℚ whole (pos 2) *ℚ strain_squares v = below_then_at_most (minor *ₚ minor) (s_at_most_squares v) in
    let some : whole (pos 0) <ℚ strain_squares v = below_over (positive_number 1) twice (solve 1 (λ q. int (pos 2) ⊗ (q ⊖ int (pos 0)) ≐ int (pos 2) ⊗ q) refl (strain_squares v)) in
    below_over minor (definite v some)
    (solve 6 (λ a b c d e f. (a ⊗ c ⊖ b ⊗ b) ⊗ (determinant_term a b c d e f ⊖ int (pos 0)) ≐ work_term a b c d e f (b ⊗ e ⊖ d ⊗ c) (b ⊗ d ⊖ a ⊗ e) (a ⊗ c ⊖ b ⊗ b))
    refl m.xx m.xy m.yy m.xs m.ys m.ss)

-- ---- the inverse

-- a row p q r times the inverse and a stress, with i the inverse of the determinant
abbrev row_term : (p q r a b c d e f i x y s : Expr) → Expr
row_term p q r a b c d e f i x y s =
    let xx = i ⊗ (c ⊗ f ⊖ e ⊗ e) in
    let xy = i ⊗ (d ⊗ e ⊖ b ⊗ f) in
    let yy = i ⊗ (a ⊗ f ⊖ d ⊗ d) in
    let xs = i ⊗ (b ⊗ e ⊖ d ⊗ c) in
    let ys = i ⊗ (b ⊗ d ⊖ a ⊗ e) in
    let ss = i ⊗ (a ⊗ c ⊖ b ⊗ b) in
    p ⊗ (xx ⊗ x ⊕ xy ⊗ y ⊕ xs ⊗ s) ⊕ q ⊗ (xy ⊗ x ⊕ yy ⊗ y ⊕ ys ⊗ s) ⊕ r ⊗ (xs ⊗ x ⊕ ys ⊗ y ⊕ ss ⊗ s)

pub inverted-inverts : (m : Sym3 ℚ) → IsDefinite m → Inverts m (inverted m)
unfolding inverted ◌-ℚ◌ ◌/ℚ◌
inverted-inverts m definite v =
    let i = inverse (determinant m) in
    let one = times-inverse (determinant_above m definite) in
    let x = from₁ v.x one (solve 10 (λ a b c d e f i x y s. row_term a b d a b c d e f i x y s ≐ x ⊕ x ⊗ (determinant_term a b c d e f ⊗ i ⊖ int (pos 1))) refl m.xx m.xy m.yy m.xs m.ys m.ss i v.x v.y v.s) in
    let y = from₁ v.y one (solve 10 (λ a b c d e f i x y s. row_term b c e a b c d e f i x y s ≐ y ⊕ y ⊗ (determinant_term a b c d e f ⊗ i ⊖ int (pos 1))) refl m.xx m.xy m.yy m.xs m.ys m.ss i v.x v.y v.s) in
    let s = from₁ v.s one (solve 10 (λ a b c d e f i x y s. row_term d e f a b c d e f i x y s ≐ s ⊕ s ⊗ (determinant_term a b c d e f ⊗ i ⊖ int (pos 1))) refl m.xx m.xy m.yy m.xs m.ys m.ss i v.x v.y v.s) in
    λ j. record { x = x j; y = y j; s = s j }
