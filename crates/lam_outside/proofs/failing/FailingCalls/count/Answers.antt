use Rattle.std.proofs.Common.{◌≡◌, ℕ, ◌<◌, ◌^◌, List, get_or, arith, subst, sym, ap, ◌∙◌, rules, Fits, w64}
use Rattle.std.proofs.Math.Facts.{Fits-lt-pow}
use Rattle.std.proofs.lemmas.Bool.{false≢true}
use Rattle.std.proofs.lemmas.Grind.{get_or_default_zero}
use Rattle.std.specs.Prelude.{Contains}
use Rattle.lam_outside.proofs.failing.FailingCalls.count.Goals as goal

-- a number past the greatest u64 stands in no list of u64s
past_all : (xs ys : List ℕ) (n : ℕ) → ys ≡ xs → ((k : ℕ) → Fits w64 (get_or ys k 0)) → (n < 2 ^ 64 → ⊥) → Contains xs n → ⊥
past_all xs ys n same fit past (k, within, found) =
    let fits = subst (λ (zs : List ℕ). (i : ℕ) → Fits w64 (get_or zs i 0)) same fit in
    past (subst (λ (x : ℕ). x < 2 ^ 64) (sym (get_or_default_zero xs k n within) ∙ found) (Fits-lt-pow (fits k)))

pub returns-in-None-clause-due : goal.returns-in-None-clause-due
returns-in-None-clause-due c =
    let same = ap (λ v. v.failing) c.self.view_is in
    let made = ap (λ v. v.made) c.self.view_is in
    (λ f. absurd (false≢true f), λ due. absurd (past_all _ c.self.inside.failing.items _ same (search rules) (λ h. c.in-None.ensures (omega (arith, made, h))) due))
