-- Powers of two, and the least shift by which a bound bears a load.
use Rattle.std.proofs.Common.{◌≡◌, refl, ◌∙◌, ap, ℕ, suc, ◌+◌, ◌-◌, ◌^◌, ◌≤◌, ◌<◌, true, false, ℤ, pos, ◌*ℤ◌, ◌≤ℤ◌, ◌<ℤ◌, unsigned_abs, int_lt, FitsSigned, w64, lit<, arith}
use Rattle.std.proofs.Math.Nat.{pow-le-pow_right}
use Rattle.std.proofs.lemmas.Int.{ints, fits_signed_from_abs}
use Rattle.std.proofs.lemmas.Nat.{pow_pos}
use Rattle.lam_fraction.proofs.Integers as Z
use Rattle.lam_fraction.proofs.numbers.Machine.{product_small}
use Rattle.lam_tsai.specs.inside.Values.{first_shift}
use Rattle.lam_tsai.proofs.Ordered.{below, above}

pub power-small : (k m : ℕ) → k ≤ m → 2 ^ k ≤ 2 ^ m
power-small k m h = pow-le-pow_right (lit< tt) h

module _ (bound : ℤ) (k : ℕ) (least : pos 1 ≤ℤ bound) (greatest : bound ≤ℤ pos (2 ^ 24)) (few : k ≤ 24) where
  pub bearing-size : unsigned_abs (bound *ℤ pos (2 ^ k)) ≤ 2 ^ 48
  bearing-size =
      let small : unsigned_abs bound ≤ 2 ^ 24 = omega (arith, ints, least, greatest) in
      let power : unsigned_abs (pos (2 ^ k)) ≤ 2 ^ 24 = power-small k 24 few in
      product_small (2 ^ 24) (2 ^ 24) bound (pos (2 ^ k)) small power

  pub bearing-positive : pos 1 ≤ℤ (bound *ℤ pos (2 ^ k))
  bearing-positive =
      let power : pos 1 ≤ℤ pos (2 ^ k) = omega (arith, ints, pow_pos k) in
      let product = Z.◌*ₚ◌ {a = bound} {b = pos (2 ^ k)} (omega (arith, ints, least)) (omega (arith, ints, power)) in
      omega (arith, ints, product)

  pub bearing-fits : FitsSigned w64 (bound *ℤ pos (2 ^ k))
  bearing-fits = fits_signed_from_abs w64 (bound *ℤ pos (2 ^ k)) (omega (arith, bearing-size))

-- ---- the search

one-more : (m k : ℕ) (load bound : ℤ) → (bound *ℤ pos (2 ^ k)) <ℤ load → first_shift (suc m) k load bound ≡ first_shift m (k + 1) load bound
unfolding first_shift
one-more m k load bound h = let test : int_lt (bound *ℤ pos (2 ^ k)) load ≡ true = below (bound *ℤ pos (2 ^ k)) load h in rw test refl

here : (m k : ℕ) (load bound : ℤ) → load ≤ℤ (bound *ℤ pos (2 ^ k)) → first_shift (suc m) k load bound ≡ k
unfolding first_shift
here m k load bound h = let test : int_lt (bound *ℤ pos (2 ^ k)) load ≡ false = above (bound *ℤ pos (2 ^ k)) load h in rw test refl

pub shift-more : (k : ℕ) (load bound : ℤ) → k < 24 → (bound *ℤ pos (2 ^ k)) <ℤ load → first_shift (24 - k) k load bound ≡ first_shift (24 - (k + 1)) (k + 1) load bound
shift-more k load bound few h =
    let left : 24 - k ≡ suc (24 - (k + 1)) = omega (arith, few) in
    ap (λ m. first_shift m k load bound) left ∙ one-more (24 - (k + 1)) k load bound h

pub shift-here : (k : ℕ) (load bound : ℤ) → k < 24 → load ≤ℤ (bound *ℤ pos (2 ^ k)) → first_shift (24 - k) k load bound ≡ k
shift-here k load bound few h =
    let left : 24 - k ≡ suc (24 - (k + 1)) = omega (arith, few) in
    ap (λ m. first_shift m k load bound) left ∙ here (24 - (k + 1)) k load bound h

pub shift-last : (load bound : ℤ) → first_shift 0 24 load bound ≡ 24
unfolding first_shift
shift-last load bound = refl
