-- The halving of a range: what it comes to, and what is known of the number that it finds.
use Rattle.std.proofs.Common.{◌≡◌, refl, sym, ap, ◌∙◌, subst, ℕ, zero, suc, ◌+◌, ◌*◌, ◌/◌, ◌^◌, ◌<◌, ◌≤◌, ◌⊎◌, inl, inr, Bool, true, false, nat_le, arith}
use Rattle.std.specs.Prelude.{if◌then◌else◌}
use Rattle.std.proofs.Math.Nat.{pow-suc}
use Rattle.std.proofs.lemmas.Bool.{cases_lt}
use Rattle.std.proofs.lemmas.Bool.Decides.{nat_tests}
use Rattle.lam_plate.specs.inside.Formulas.{halved, lowered}

-- ---- one turn

pub halved-none : (test : ℕ → Bool) (met beyond : ℕ) → halved test zero met beyond ≡ met
unfolding halved
halved-none test met beyond = refl

pub halved-near : (test : ℕ → Bool) (turns met beyond : ℕ) → beyond ≤ met + 1 → halved test (suc turns) met beyond ≡ met
unfolding halved
halved-near test turns met beyond h =
    let near : nat_le beyond (met + 1) ≡ true = grind (arith, nat_tests) in
    ap (λ (t : Bool). if t then met else (if test ((met + beyond) / 2) then halved test turns ((met + beyond) / 2) beyond else halved test turns met ((met + beyond) / 2))) near

pub halved-turn : (test : ℕ → Bool) (turns met beyond : ℕ) → met + 1 < beyond → (t : Bool) → test ((met + beyond) / 2) ≡ t
    → halved test (suc turns) met beyond ≡ (if t then halved test turns ((met + beyond) / 2) beyond else halved test turns met ((met + beyond) / 2))
unfolding halved
halved-turn test turns met beyond h t e =
    let far : nat_le beyond (met + 1) ≡ false = grind (arith, nat_tests) in
    ap (λ (t : Bool). if t then met else (if test ((met + beyond) / 2) then halved test turns ((met + beyond) / 2) beyond else halved test turns met ((met + beyond) / 2))) far
    ∙ ap (λ (t : Bool). if t then halved test turns ((met + beyond) / 2) beyond else halved test turns met ((met + beyond) / 2)) e

-- ---- the loop

pub record Halving (test : ℕ → Bool) (most met beyond : ℕ) : Type 0 where
  pub turns : ℕ
  pub near : beyond ≤ met + 2 ^ turns
  pub order : met ≤ beyond
  pub within : beyond ≤ most
  pub same : halved test 15 0 most ≡ halved test turns met beyond

pub halving-begin : (test : ℕ → Bool) (most : ℕ) → most ≤ 20000 → Halving test most 0 most
halving-begin test most h = record { turns = 15; near = omega (arith, h); order = omega arith; within = omega arith; same = refl }

pub halving-end : (test : ℕ → Bool) (most met beyond : ℕ) → Halving test most met beyond → beyond ≤ met + 1 → halved test 15 0 most ≡ met
halving-end test most met beyond h near = h.same ∙ at_end h.turns
  where
    at_end : (turns : ℕ) → halved test turns met beyond ≡ met
    at_end zero = halved-none test met beyond
    at_end (suc turns) = halved-near test turns met beyond near

middle-between : (met beyond : ℕ) → met + 1 < beyond → (met < (met + beyond) / 2) × ((met + beyond) / 2 < beyond)
middle-between met beyond h = (omega (arith, h), omega (arith, h))

raised : (test : ℕ → Bool) (most met beyond turns : ℕ) → beyond ≤ met + 2 ^ turns → beyond ≤ most → halved test 15 0 most ≡ halved test turns met beyond → met + 1 < beyond → test ((met + beyond) / 2) ≡ true
    → Halving test most ((met + beyond) / 2) beyond
raised test most met beyond zero near within same far e = absurd (omega (arith, near, far))
raised test most met beyond (suc turns) near within same far e =
    let power : 2 ^ suc turns ≡ 2 ^ turns * 2 = pow-suc 2 turns in
    let middle = middle-between met beyond far in
    record { turns = turns; near = omega (arith, near, power); order = omega (arith, middle.1); within = within; same = same ∙ halved-turn test turns met beyond far true e }

fallen : (test : ℕ → Bool) (most met beyond turns : ℕ) → beyond ≤ met + 2 ^ turns → beyond ≤ most → halved test 15 0 most ≡ halved test turns met beyond → met + 1 < beyond → test ((met + beyond) / 2) ≡ false
    → Halving test most met ((met + beyond) / 2)
fallen test most met beyond zero near within same far e = absurd (omega (arith, near, far))
fallen test most met beyond (suc turns) near within same far e =
    let power : 2 ^ suc turns ≡ 2 ^ turns * 2 = pow-suc 2 turns in
    let middle = middle-between met beyond far in
    record { turns = turns; near = omega (arith, near, power); order = omega (arith, middle.0); within = omega (arith, within, middle.1); same = same ∙ halved-turn test turns met beyond far false e }

pub halving-raised : (test : ℕ → Bool) (most met beyond : ℕ) → Halving test most met beyond → met + 1 < beyond → test ((met + beyond) / 2) ≡ true → Halving test most ((met + beyond) / 2) beyond
halving-raised test most met beyond h far e = raised test most met beyond h.turns h.near h.within h.same far e

pub halving-fallen : (test : ℕ → Bool) (most met beyond : ℕ) → Halving test most met beyond → met + 1 < beyond → test ((met + beyond) / 2) ≡ false → Halving test most met ((met + beyond) / 2)
halving-fallen test most met beyond h far e = fallen test most met beyond h.turns h.near h.within h.same far e

-- ---- what is known of the number that is found

pub record IsLowered (test : ℕ → Bool) (most r : ℕ) : Type 0 where
  pub within : r ≤ most
  pub met : (r ≡ 0) ⊎ (test r ≡ true)
  pub next : r < most → test (r + 1) ≡ false

-- the last number that is met, where the range is at an end
ended : (test : ℕ → Bool) (met beyond : ℕ) → met ≤ beyond → beyond ≤ met + 1 → (met ≡ 0) ⊎ (test met ≡ true) → test beyond ≡ false → IsLowered test beyond met
ended test met beyond order near met_is fails = record { within = order; met = met_is; next = λ h. let e : beyond ≡ met + 1 = omega (arith, near, h) in subst (λ k. test k ≡ false) e fails }

-- what was found below a number that is not met
more-within : (test : ℕ → Bool) (middle beyond r : ℕ) → middle ≤ beyond → test middle ≡ false → (r ≡ 0) ⊎ (test r ≡ true) → r < middle → IsLowered test middle r → IsLowered test beyond r
more-within test middle beyond r h fails met less l = record { within = omega (arith, h, less); met = l.met; next = λ k. l.next less }

by_test : (test : ℕ → Bool) (turns met beyond : ℕ) → met + 1 < beyond → (met + beyond) / 2 ≤ beyond
    → (test ((met + beyond) / 2) ≡ true → (halved test turns ((met + beyond) / 2) beyond < beyond) × IsLowered test beyond (halved test turns ((met + beyond) / 2) beyond))
    → (test ((met + beyond) / 2) ≡ false → (halved test turns met ((met + beyond) / 2) < (met + beyond) / 2) × IsLowered test ((met + beyond) / 2) (halved test turns met ((met + beyond) / 2)))
    → (t : Bool) → test ((met + beyond) / 2) ≡ t
    → (halved test (suc turns) met beyond < beyond) × IsLowered test beyond (halved test (suc turns) met beyond)
by_test test turns met beyond far within upper lower true e = subst (λ r. (r < beyond) × IsLowered test beyond r) (sym (halved-turn test turns met beyond far true e)) (upper e)
by_test test turns met beyond far within upper lower false e =
    let l = lower e in
    subst (λ r. (r < beyond) × IsLowered test beyond r) (sym (halved-turn test turns met beyond far false e))
    (omega (arith, l.0, within), more-within test ((met + beyond) / 2) beyond (halved test turns met ((met + beyond) / 2)) within e l.1.met l.0 l.1)

-- of a range whose lower end is met and whose upper end is not
halved-facts : (test : ℕ → Bool) (turns met beyond : ℕ) → met < beyond → beyond ≤ met + 2 ^ turns → (met ≡ 0) ⊎ (test met ≡ true) → test beyond ≡ false
    → (halved test turns met beyond < beyond) × IsLowered test beyond (halved test turns met beyond)
halved-facts test zero met beyond order near met_is fails =
    subst (λ r. (r < beyond) × IsLowered test beyond r) (sym (halved-none test met beyond)) (order, ended test met beyond (omega (arith, order)) (omega (arith, near)) met_is fails)
halved-facts test (suc turns) met beyond order near met_is fails = elim (cases_lt (met + 1) beyond) [
  | inl far ↦ (
      let power : 2 ^ suc turns ≡ 2 ^ turns * 2 = pow-suc 2 turns in
      let middle = middle-between met beyond far in
      let k = (met + beyond) / 2 in
      let upper = λ (e : test k ≡ true). halved-facts test turns k beyond middle.1 (omega (arith, near, power)) (inr e) fails in
      let lower = λ (e : test k ≡ false). halved-facts test turns met k middle.0 (omega (arith, near, power)) met_is e in
      by_test test turns met beyond far (omega (arith, middle.1)) upper lower (test k) refl)
  | inr close ↦
      subst (λ r. (r < beyond) × IsLowered test beyond r) (sym (halved-near test turns met beyond close)) (order, ended test met beyond (omega (arith, order)) close met_is fails)
]

pub lowered-passes : (test : ℕ → Bool) (most : ℕ) → test most ≡ true → lowered test most ≡ most
lowered-passes test most e = ap (λ (t : Bool). if t then most else halved test 15 0 most) e

pub lowered-fails : (test : ℕ → Bool) (most : ℕ) → test most ≡ false → lowered test most ≡ halved test 15 0 most
lowered-fails test most e = ap (λ (t : Bool). if t then most else halved test 15 0 most) e

zero-or-more : (test : ℕ → Bool) (most : ℕ) → most ≤ 20000 → test most ≡ false → IsLowered test most (halved test 15 0 most)
zero-or-more test zero h e = subst (IsLowered test 0) (sym (halved-near test 14 0 0 (omega arith))) (record { within = omega arith; met = inl refl; next = λ k. absurd (omega (arith, k)) })
zero-or-more test (suc k) h e = (halved-facts test 15 0 (suc k) (omega arith) (omega (arith, h)) (inl refl) e).1

at_most : (test : ℕ → Bool) (most : ℕ) → most ≤ 20000 → (t : Bool) → test most ≡ t → IsLowered test most (lowered test most)
at_most test most h true e = subst (IsLowered test most) (sym (lowered-passes test most e)) (record { within = omega arith; met = inr e; next = λ k. absurd (omega (arith, k)) })
at_most test most h false e = subst (IsLowered test most) (sym (lowered-fails test most e)) (zero-or-more test most h e)

pub lowered-facts : (test : ℕ → Bool) (most : ℕ) → most ≤ 20000 → IsLowered test most (lowered test most)
lowered-facts test most h = at_most test most h (test most) refl
