-- Weights of the same numbers are the same.
use Rattle.std.proofs.Common.{◌≡◌, refl, ap, ap₂, subst, ℕ, ◌+◌, ◌≤◌, ℤ, unsigned_abs, List, [], ◌∷◌, map}
use denote.Struct.Props.{props}
use Rattle.lam_support.specs.declared.weight.Weight.{Weight}

one-order : (m n : ℕ) (p q : m ≤ n) → p ≡ q
one-order m n p q = let h : IsProp (m ≤ n) = hlevel props in h p q

same-numbers : (a : Weight) (x y s : ℤ) → a.x ≡ x → a.y ≡ y → a.s ≡ s
    → (p : unsigned_abs x ≤ 100) (q : unsigned_abs y ≤ 100) (r : unsigned_abs s ≤ 100) (t : 1 ≤ unsigned_abs x + unsigned_abs y + unsigned_abs s)
    → a ≡ record { x = x; y = y; s = s; x_range = p; y_range = q; s_range = r; some = t }
same-numbers a x y s e f g =
    let P : ℤ → ℤ → ℤ → Type 0 = λ x y s.
    (p : unsigned_abs x ≤ 100) (q : unsigned_abs y ≤ 100) (r : unsigned_abs s ≤ 100) (t : 1 ≤ unsigned_abs x + unsigned_abs y + unsigned_abs s)
    → a ≡ record { x = x; y = y; s = s; x_range = p; y_range = q; s_range = r; some = t } in
    let base : P a.x a.y a.s = λ p q r t i. record {
      x = a.x;
      y = a.y;
      s = a.s;
      x_range = one-order _ _ a.x_range p i;
      y_range = one-order _ _ a.y_range q i;
      s_range = one-order _ _ a.s_range r i;
      some = one-order _ _ a.some t i;
    } in
    subst (λ z. P x y z) g (subst (λ z. P x z a.s) f (subst (λ z. P z a.y a.s) e base))

pub same_weight : (a b : Weight) → a.x ≡ b.x → a.y ≡ b.y → a.s ≡ b.s → a ≡ b
same_weight a b e f g = same-numbers a b.x b.y b.s e f g b.x_range b.y_range b.s_range b.some

-- the numbers of some weights
abbrev pub numbers : List Weight → List (ℤ × ℤ × ℤ)
numbers weights = map (λ (w : Weight). (w.x, w.y, w.s)) weights

pub same_weights : (a b : List Weight) → numbers a ≡ numbers b → a ≡ b
same_weights [] [] e = refl
same_weights [] (w ∷ b) e = cc
same_weights (v ∷ a) [] e = cc
same_weights (v ∷ a) (w ∷ b) e =
    let first : ◌≡◌ {A = ℤ × ℤ × ℤ} (v.x, v.y, v.s) (w.x, w.y, w.s) = cc in
    let rest : numbers a ≡ numbers b = cc in
    ap₂ ◌∷◌ (same_weight v w (ap (λ (t : ℤ × ℤ × ℤ). t.0) first) (ap (λ (t : ℤ × ℤ × ℤ). t.1) first) (ap (λ (t : ℤ × ℤ × ℤ). t.2) first)) (same_weights a b rest)
