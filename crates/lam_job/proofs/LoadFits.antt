-- The numbers of a case's load fit 64 bits.
use Rattle.std.proofs.Common.{ℤ, pos, negsuc, ◌+ℤ◌, ◌*ℤ◌, ◌≤ℤ◌, arith}
use Rattle.std.proofs.lemmas.Int.{ints}
use mir.Val.{SFits}
use mir.Syntax.{w64}
use Rattle.lam_job.specs.Ranges.{IsForce, IsMoment}

small_fits : (z : ℤ) → negsuc 20000000000000 ≤ℤ z → z ≤ℤ pos 20000000000000 → SFits w64 z
small_fits (pos n) low high = record { sfits = omega (arith, ints, high) }
small_fits (negsuc n) low high = record { sfits = omega (arith, ints, low) }

pub force_fits : (z : ℤ) → IsForce z → SFits w64 z
force_fits z h = small_fits z (omega (arith, ints, h.least)) (omega (arith, ints, h.greatest))

pub quarters_fit : (z : ℤ) → IsForce z → SFits w64 (pos 4 *ℤ z)
quarters_fit z h = small_fits (pos 4 *ℤ z) (omega (arith, ints, h.least)) (omega (arith, ints, h.greatest))

pub moment_fits : (z : ℤ) → IsMoment z → SFits w64 z
moment_fits z h = small_fits z (omega (arith, ints, h.least)) (omega (arith, ints, h.greatest))

pub end_fits : (ends : ℤ) → pos 0 ≤ℤ ends → ends ≤ℤ pos 10000000000 → SFits w64 ends
end_fits ends low high = small_fits ends (omega (arith, ints, low)) (omega (arith, ints, high))

pub axial_fits : (ends axial : ℤ) → pos 0 ≤ℤ ends → ends ≤ℤ pos 10000000000 → IsForce axial → SFits w64 (ends +ℤ pos 4 *ℤ axial)
axial_fits ends axial low high h =
    small_fits (ends +ℤ pos 4 *ℤ axial) (omega (arith, ints, low, h.least)) (omega (arith, ints, high, h.greatest))
