-- The first number that passes a test.
use Rattle.std.proofs.Common.{◌-◌, ◌<◌, ◌≡◌, refl, sym, ap, ◌∙◌, subst, ℕ, zero, suc, ◌+◌, ◌≤◌, Bool, true, false, arith}
use Rattle.std.specs.Prelude.{if◌then◌else◌}
use Rattle.lam_plate.specs.inside.Formulas.{first_from}

pub first-none : (test : ℕ → Bool) (m : ℕ) → first_from test zero m ≡ m
unfolding first_from
first-none test m = refl

pub first-passes : (test : ℕ → Bool) (more m : ℕ) → test m ≡ true → first_from test (suc more) m ≡ m
unfolding first_from
first-passes test more m e = ap (λ (t : Bool). if t then m else first_from test more (suc m)) e

pub first-fails : (test : ℕ → Bool) (more m : ℕ) → test m ≡ false → first_from test (suc more) m ≡ first_from test more (suc m)
unfolding first_from
first-fails test more m e = ap (λ (t : Bool). if t then m else first_from test more (suc m)) e

pass-or-go : (test : ℕ → Bool) (more m : ℕ) → (test (first_from test more (suc m)) ≡ true) → (t : Bool) → test m ≡ t → test (first_from test (suc more) m) ≡ true
pass-or-go test more m rest true p = subst (λ k. test k ≡ true) (sym (first-passes test more m p)) p
pass-or-go test more m rest false p = subst (λ k. test k ≡ true) (sym (first-fails test more m p)) rest

-- where the last number passes it, so does the first
pub first-decides : (test : ℕ → Bool) (more m last : ℕ) → m + more ≡ last → test last ≡ true → test (first_from test more m) ≡ true
first-decides test zero m last e h =
    let same : last ≡ m = omega (arith, e) in
    subst (λ k. test k ≡ true) (same ∙ sym (first-none test m)) h
first-decides test (suc more) m last e h = pass-or-go test more m (first-decides test more (suc m) last (omega (arith, e)) h) (test m) refl

-- it lies in the range
pub first-between : (test : ℕ → Bool) (more m : ℕ) → (m ≤ first_from test more m) × (first_from test more m ≤ m + more)
first-between test zero m = subst (λ k. (m ≤ k) × (k ≤ m + 0)) (sym (first-none test m)) (omega arith, omega arith)
first-between test (suc more) m =
    let rest = first-between test more (suc m) in
    pass-or-later (test m) refl (omega (arith, rest.0)) (omega (arith, rest.1))
  where
    pass-or-later : (t : Bool) → test m ≡ t → m ≤ first_from test more (suc m) → first_from test more (suc m) ≤ m + suc more → (m ≤ first_from test (suc more) m) × (first_from test (suc more) m ≤ m + suc more)
    pass-or-later true e low high = subst (λ k. (m ≤ k) × (k ≤ m + suc more)) (sym (first-passes test more m e)) (omega arith, omega arith)
    pass-or-later false e low high = subst (λ k. (m ≤ k) × (k ≤ m + suc more)) (sym (first-fails test more m e)) (low, high)

-- ---- up to a last number

pub first-last : (test : ℕ → Bool) (m last : ℕ) → m < last → test m ≡ true → first_from test (last - m) m ≡ m
first-last test m last h e =
    let some : last - m ≡ suc (last - (m + 1)) = omega (arith, h) in
    ap (λ (k : ℕ). first_from test k m) some ∙ first-passes test (last - (m + 1)) m e

pub first-next : (test : ℕ → Bool) (m last : ℕ) → m < last → test m ≡ false → first_from test (last - m) m ≡ first_from test (last - (m + 1)) (m + 1)
first-next test m last h e =
    let some : last - m ≡ suc (last - (m + 1)) = omega (arith, h) in
    let next : suc m ≡ m + 1 = omega arith in
    ap (λ (k : ℕ). first_from test k m) some ∙ first-fails test (last - (m + 1)) m e ∙ ap (λ (k : ℕ). first_from test (last - (m + 1)) k) next
