-- The bits of a set of items.
use Rattle.std.proofs.Common.{one-mul, le_refl, le_trans, ◌≤◌, ◌≡◌, ℕ, ◌+◌, ◌*◌, ◌%◌, ◌^◌, ◌<◌, List, [], ◌∷◌, length, drop, get_or, bit_or, drop-cons, add-one, arith, All}
use Rattle.std.proofs.Math.Nat.{mod-eq_of_lt}
use Rattle.std.proofs.Math.Pow.{pow-lt, pow_pos}
use Rattle.std.proofs.lemmas.Nat.{le_or_l, le_or_r}
use Rattle.std.proofs.lemmas.List.Elements.{All-get_or}
use Rattle.lam_stock.specs.declared.item.ItemNo.{ItemNo}
use Rattle.lam_job.specs.JobOf.{bits_of}

-- a bit of 64
pub bit_is : (k : ℕ) → k < 64 → 1 * 2 ^ k % 18446744073709551616 ≡ 2 ^ k
bit_is k h = rw (one-mul (2 ^ k)) (mod-eq_of_lt (pow-lt {i = k} {j = 64} h))

pub bits-passed : (xs : List ItemNo) (i bits all : ℕ) (d : ItemNo) → i < length xs → All (λ x. x.0 < 64) xs → bits_of bits (drop i xs) ≡ all
    → bits_of (bit_or bits (1 * 2 ^ (get_or xs i d).0 % 18446744073709551616)) (drop (i + 1) xs) ≡ all
bits-passed xs i bits all d h small inv = rw (bit_is (get_or xs i d).0 (All-get_or (λ x. x.0 < 64) xs i d h small), add-one) (rw (drop-cons xs i d) at inv)

bits-more : (bits : ℕ) (xs : List ItemNo) → bits ≤ bits_of bits xs
bits-more bits [] = le_refl bits
bits-more bits (x ∷ xs) = le_trans (le_or_l bits (2 ^ x.0)) (bits-more (bit_or bits (2 ^ x.0)) xs)

-- the set of some items has a bit
pub some-bits : (xs : List ItemNo) → 1 ≤ length xs → 0 < bits_of 0 xs
some-bits [] h = absurd (omega (arith, h))
some-bits (x ∷ xs) h =
    let bit : 0 < 2 ^ x.0 = pow_pos x.0 in
    let one : 2 ^ x.0 ≤ bit_or 0 (2 ^ x.0) = le_or_r 0 (2 ^ x.0) in
    let all : bit_or 0 (2 ^ x.0) ≤ bits_of (bit_or 0 (2 ^ x.0)) xs = bits-more (bit_or 0 (2 ^ x.0)) xs in
    omega (arith, bit, one, all)
