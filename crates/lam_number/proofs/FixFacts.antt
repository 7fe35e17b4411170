-- A value of fixed point is known by its ends.
use Rattle.std.proofs.Common.{◌≡◌, sym, ap, ◌∙◌, subst, ℕ, arith, ℤ, ◌≤ℤ◌}
use Rattle.std.proofs.lemmas.Int.{ints, clamps}
use Rattle.std.specs.Int.{int_max}
use lib.Dec.{T_prop}
use Rattle.lam_number.specs.declared.fix.Fix.{Fix}
use Rattle.lam_number.specs.inside.FixNumbers.{fix_of, max-bound}

order_prop : (x y : ℤ) → IsProp (x ≤ℤ y)
order_prop x y = hlevel T_prop

same_ends : (s : ℕ) (a : Fix s) (low high : ℤ) (q : low ≤ℤ high) → a.low ≡ low → a.high ≡ high → let b : Fix s = record { low = low; high = high; ordered = q } in a ≡ b
same_ends s a low high q e f =
    let F : ℤ → ℤ → Type 0 = λ l h. (q : l ≤ℤ h) → (let b : Fix s = record { low = l; high = h; ordered = q } in a ≡ b) in
    let B : a.low ≤ℤ a.high → Fix s = λ o. record { low = a.low; high = a.high; ordered = o } in
    subst (λ l. F l high) e (subst (λ h. F a.low h) f (λ o. ap B (order_prop a.low a.high a.ordered o))) q

pub fix_is : (s : ℕ) (a : Fix s) (low high : ℤ) → a.low ≡ low → a.high ≡ high → a ≡ fix_of s low high
unfolding fix_of
fix_is s a low high e f =
    let order : low ≤ℤ high = subst (λ z. z ≤ℤ high) e (subst (λ z. a.low ≤ℤ z) f a.ordered) in
    let top : int_max low high ≡ high = omega (arith, ints, clamps) in
    same_ends s a low (int_max low high) (max-bound low high) e (f ∙ sym top)
