-- How large machine numbers are.
use Rattle.std.proofs.Common.{◌^◌, ◌≤◌, ℤ, pos, negsuc, unsigned_abs, w64, SFits, arith}
use Rattle.std.proofs.lemmas.Int.{ints, to_z-of_z}
use Rattle.lam_fraction.proofs.numbers.Machine.{Sized, stored-64, sized_result, sized_given}

pub range-64 : {z : ℤ} → SFits w64 z → unsigned_abs z ≤ 2 ^ 63
range-64 {z = pos n} h = omega (arith, ints, h.sfits)
range-64 {z = negsuc n} h = omega (arith, ints, h.sfits)

-- a number of the machine's, read back from its bits
abbrev pub read-64 : {z : ℤ} → SFits w64 z → Sized (stored-64 z)
read-64 {z} h = sized_result (to_z-of_z w64 z h) (sized_given (range-64 h))
