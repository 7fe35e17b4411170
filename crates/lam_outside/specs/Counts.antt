-- Counts of faults and of stalls, which rise up to the greatest u64 and stand still there.
use Rattle.std.specs.Prelude.{◌≡◌, ℕ, ◌+◌, ◌-◌, ◌^◌, ◌<◌, ◌≤◌, min, Result, Ok, Err, MatchResult, Bool, false, ◌==◌, ◌&&◌, nat_lt}

-- the count one higher, up to the greatest u64
abbrev pub raised : ℕ → ℕ
raised count = min (count + 1) (2 ^ 64 - 1)

-- the count rose, or stands at the greatest u64
abbrev pub Rose : ℕ → ℕ → Type 0
Rose old new = raised old ≤ new

-- a turn that took none of a piece of `size` bytes that isn't empty raised the count, and any other left it as it was
abbrev pub CountsStall : {E : Type 0} → Result ℕ E → ℕ → ℕ → ℕ → Type 0
CountsStall turn size old new =
    MatchResult turn
    (λ n. (n ≡ 0 → 0 < size → Rose old new) × (0 < n → new ≡ old) × (size ≡ 0 → new ≡ old))
    (λ _. new ≡ old)

-- whether the turn took none of a piece of `size` bytes that isn't empty
abbrev pub stalls_at : {E : Type 0} → Result ℕ E → ℕ → Bool
stalls_at (Ok n) size = (n == 0) && nat_lt 0 size
stalls_at (Err e) size = false
