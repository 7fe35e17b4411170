-- Halving what lies between a number that passes a test and one that doesn't.
use Rattle.std.proofs.Common.{◌≡◌, refl, sym, ◌∙◌, subst, ℕ, zero, suc, ◌+◌, ◌-◌, ◌*◌, ◌/◌, ◌^◌, ◌≤◌, ◌<◌, ◌⊎◌, inl, inr, Bool, true, false, nat_lt, arith}
use Rattle.std.proofs.lemmas.Bool.{lt-ltb, le-ltb}
use Rattle.lam_tsai.specs.inside.Halving.{between, halved}

more-met : (k : ℕ) (test : ℕ → Bool) (m b : ℕ) → 1 < b - m → test ((m + b) / 2) ≡ true → between (suc k) test m b ≡ between k test ((m + b) / 2) b
unfolding between
more-met k test m b h e = let wide : nat_lt 1 (b - m) ≡ true = lt-ltb 1 (b - m) h in rw (wide, e) refl

more-not : (k : ℕ) (test : ℕ → Bool) (m b : ℕ) → 1 < b - m → test ((m + b) / 2) ≡ false → between (suc k) test m b ≡ between k test m ((m + b) / 2)
unfolding between
more-not k test m b h e = let wide : nat_lt 1 (b - m) ≡ true = lt-ltb 1 (b - m) h in rw (wide, e) refl

done : (k : ℕ) (test : ℕ → Bool) (m b : ℕ) → b - m ≤ 1 → between k test m b ≡ m
unfolding between
done zero test m b h = refl
done (suc k) test m b h = let narrow : nat_lt 1 (b - m) ≡ false = le-ltb 1 (b - m) h in rw narrow refl

-- what the halving keeps: the first number passes or is 0, the second doesn't pass or is beyond all, and some turns are left
pub record Halves (test : ℕ → Bool) (m b : ℕ) : Type 0 where
  pub order : m < b
  pub most : b ≤ 20001
  pub passes : (m ≡ 0) ⊎ (test m ≡ true)
  pub fails : b < 20001 → test b ≡ false
  pub turns : ℕ
  pub few : b - m ≤ 2 ^ turns
  pub value : between turns test m b ≡ halved test

pub start : (test : ℕ → Bool) → Halves test 0 20001
start test = record { order = omega arith; most = omega arith; passes = inl refl; fails = λ h. absurd (omega (arith, h)); turns = 15; few = omega arith; value = refl }

pub upper : {test : ℕ → Bool} {m b : ℕ} → Halves test m b → 1 < b - m → test ((m + b) / 2) ≡ true → Halves test ((m + b) / 2) b
upper {test} {m} {b} h wide e = go h.turns h.few h.value
  where
    go : (k : ℕ) → b - m ≤ 2 ^ k → between k test m b ≡ halved test → Halves test ((m + b) / 2) b
    go zero few value = absurd (omega (arith, few, wide))
    go (suc k) few value =
        let halves : 2 ^ suc k ≡ 2 * 2 ^ k = omega arith in
        record {
          order = omega (arith, wide);
          most = h.most;
          passes = inr e;
          fails = h.fails;
          turns = k;
          few = omega (arith, few, halves);
          value = sym (more-met k test m b wide e) ∙ value;
        }

pub lower : {test : ℕ → Bool} {m b : ℕ} → Halves test m b → 1 < b - m → test ((m + b) / 2) ≡ false → Halves test m ((m + b) / 2)
lower {test} {m} {b} h wide e = go h.turns h.few h.value
  where
    go : (k : ℕ) → b - m ≤ 2 ^ k → between k test m b ≡ halved test → Halves test m ((m + b) / 2)
    go zero few value = absurd (omega (arith, few, wide))
    go (suc k) few value =
        let halves : 2 ^ suc k ≡ 2 * 2 ^ k = omega arith in
        record {
          order = omega (arith, wide);
          most = omega (arith, h.most, h.order);
          passes = h.passes;
          fails = λ _. e;
          turns = k;
          few = omega (arith, few, halves);
          value = sym (more-not k test m b wide e) ∙ value;
        }

module _ {test : ℕ → Bool} {m b : ℕ} (h : Halves test m b) (narrow : b - m ≤ 1) where
  next-to : b ≡ m + 1
  next-to = omega (arith, narrow, h.order)

  pub found-bound : m ≤ 20000
  found-bound = omega (arith, h.order, h.most)

  pub found-next : m < 20000 → test (m + 1) ≡ false
  found-next few = subst (λ z. test z ≡ false) next-to (h.fails (omega (arith, few, next-to)))

  pub found-value : m ≡ halved test
  found-value = sym (done h.turns test m b narrow) ∙ h.value
