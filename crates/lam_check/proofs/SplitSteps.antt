-- Steps of the open splits: an item had is a bit set, and a split taken off.
use Rattle.std.proofs.Common.{◌≡◌, sym, ◌∙◌, ap, ℕ, ◌+◌, ◌-◌, ◌*◌, ◌%◌, ◌^◌, ◌<◌, ◌≤◌, ◌==◌, ◌||◌, max, List, [], ◌∷◌, length, take, drop, reverse, get_or, bit_or, inl, inr, arith}
use Rattle.std.specs.Int.{bit_at}
use Rattle.std.proofs.lemmas.Bool.{cases_eq, eq-eqb, ne_eqb}
use Rattle.std.proofs.lemmas.Nat.{one_shl}
use Rattle.std.proofs.lemmas.Nat.Bits.{bit_at-lt, bit_at_or, bit_at-pow_same, bit_at-pow_other}
use Rattle.std.proofs.lemmas.List.{reverse-append, take_more}
use Rattle.lam_check.specs.inside.Sets.{has_bit}
use Rattle.lam_check.specs.declared.splits.Open.{Open}

pub has_bit-or : (had k i : ℕ) → k < 64 → has_bit (bit_or had (1 * 2 ^ k % 2 ^ 64)) i ≡ (i == k) || has_bit had i
has_bit-or had k i within =
    ap (λ n. has_bit (bit_or had n) i) (one_shl k 64 within)
    ∙ ap (λ n. n == 1) (bit_at_or had (2 ^ k) i)
    ∙ elim (cases_eq i k) [
      | inl same ↦ (ap (λ n. n == 1) (ap (λ j. max (bit_at had i) (bit_at (2 ^ k) j)) same ∙ ap (λ n. max (bit_at had i) n) (bit_at-pow_same k)
          ∙ (let low = bit_at-lt had i in let e : max (bit_at had i) 1 ≡ 1 = omega (arith, low) in e))
          ∙ sym (ap (λ b. b || has_bit had i) (eq-eqb i k same)))
      | inr other ↦ (ap (λ n. n == 1) (ap (λ n. max (bit_at had i) n) (bit_at-pow_other k i other) ∙ (let e : max (bit_at had i) 0 ≡ bit_at had i = omega arith in e))
          ∙ sym (ap (λ b. b || has_bit had i) (ne_eqb i k other)))
    ]

none : Open
none = record { had = 0; to_come = 0 }

pub reverse-take-less : (items : List Open) (n : ℕ) → 0 < n → n ≤ length items → reverse (take (n - 1) items) ≡ drop 1 (reverse (take n items))
reverse-take-less items n some few =
    let k = n - 1 in
    let more : n ≡ k + 1 = omega (arith, some) in
    sym (ap (λ m. drop 1 (reverse (take m items))) more
    ∙ ap (λ l. drop 1 (reverse l)) (take_more items k none (omega (arith, some, few)))
    ∙ ap (λ l. drop 1 l) (reverse-append (take k items) (get_or items k none ∷ [])))
