-- What a machine computes in 128 bits, also by the lesser and the greater of two numbers, and from one in units.
use Rattle.std.proofs.Common.{◌≡◌, refl, ap₂, ℕ, ◌^◌, ◌≤◌, max, true, ◌&&◌, ℤ, ◌+ℤ◌, ◌*ℤ◌, unsigned_abs, FitsSigned, w64, arith}
use Rattle.std.specs.Int.{int_min, int_max}
use Rattle.std.proofs.lemmas.Int.{ints, clamps, to_z-of_z}
use Rattle.lam_fraction.specs.inside.Size.{AtMost}
use Rattle.lam_fraction.proofs.numbers.Machine.{Sized, sizes, stored-64, stored-128, sized_sum, sized_product, sized_stored-64, sized_stored-128, sized_result, sized_at_most}
use Rattle.lam_fraction.proofs.numbers.Tests.{both-left, both-right}

pub lesser_small : (m k : ℕ) (a b : ℤ) → unsigned_abs a ≤ m → unsigned_abs b ≤ k → unsigned_abs (int_min a b) ≤ max m k
lesser_small m k a b h l = omega (arith, ints, clamps, h, l)

pub greater_small : (m k : ℕ) (a b : ℤ) → unsigned_abs a ≤ m → unsigned_abs b ≤ k → unsigned_abs (int_max a b) ≤ max m k
greater_small m k a b h l = omega (arith, ints, clamps, h, l)

abbrev pub sized_lesser : {a b : ℤ} → Sized a → Sized b → Sized (int_min a b)
sized_lesser s t = record {
  exact = int_min s.exact t.exact;
  size = max s.size t.size;
  fits = s.fits && t.fits;
  is = λ h. ap₂ int_min (s.is (both-left _ _ h)) (t.is (both-right _ _ h));
  small = λ h. lesser_small s.size t.size s.exact t.exact (s.small (both-left _ _ h)) (t.small (both-right _ _ h));
}

abbrev pub sized_greater : {a b : ℤ} → Sized a → Sized b → Sized (int_max a b)
sized_greater s t = record {
  exact = int_max s.exact t.exact;
  size = max s.size t.size;
  fits = s.fits && t.fits;
  is = λ h. ap₂ int_max (s.is (both-left _ _ h)) (t.is (both-right _ _ h));
  small = λ h. greater_small s.size t.size s.exact t.exact (s.small (both-left _ _ h)) (t.small (both-right _ _ h));
}

-- of one in units, as it is: its value has no size that computes
abbrev pub sized_one : {z : ℤ} → AtMost (2 ^ 60) z → Sized z
sized_one {z} room = record { exact = z; size = 2 ^ 60; fits = true; is = λ h. refl; small = λ h. room.size }

pub ruleset unit_sizes = (sized_one, sized_lesser, sized_greater, sizes)

-- ---- sums and products, step by step

abbrev pub stored : {n : ℕ} {z : ℤ} → AtMost n z → Sized (stored-128 z)
stored h = sized_stored-128 (sized_at_most h)

abbrev pub sum_two : {n m : ℕ} {a b : ℤ} → AtMost n a → AtMost m b → Sized (stored-128 a +ℤ stored-128 b)
sum_two h k = sized_sum (stored h) (stored k)

abbrev pub sum_more : {n : ℕ} {a b : ℤ} → Sized a → AtMost n b → Sized (stored-128 a +ℤ stored-128 b)
sum_more s k = sized_sum (sized_stored-128 s) (stored k)

abbrev pub sum_six : {n : ℕ} {a b c d e f : ℤ} → AtMost n a → AtMost n b → AtMost n c → AtMost n d → AtMost n e → AtMost n f
    → Sized (stored-128 (stored-128 (stored-128 (stored-128 (stored-128 a +ℤ stored-128 b) +ℤ stored-128 c) +ℤ stored-128 d) +ℤ stored-128 e) +ℤ stored-128 f)
sum_six h1 h2 h3 h4 h5 h6 = sum_more (sum_more (sum_more (sum_more (sum_two h1 h2) h3) h4) h5) h6

-- the product of an end, which a call gives, and a number
abbrev pub end_product : {n m : ℕ} {r p z c : ℤ} → p ≡ stored-64 r *ℤ stored-64 c → r ≡ z → AtMost n z → AtMost m c → Sized (stored-128 p)
end_product e f h k = sized_stored-128 (sized_result e (sized_product (sized_stored-64 (sized_result f (sized_at_most h))) (sized_stored-64 (sized_at_most k))))

pub ranged_small : (z : ℤ) → FitsSigned w64 z → unsigned_abs z ≤ 2 ^ 63
ranged_small z f = omega (arith, ints, f)

-- a number of 64 bits, of any size
abbrev pub sized_ranged : {z : ℤ} → FitsSigned w64 z → Sized (stored-64 z)
sized_ranged {z} f = record { exact = z; size = 2 ^ 63; fits = true; is = λ h. to_z-of_z w64 z f; small = λ h. ranged_small z f }

pub wide_small : (z : ℤ) → FitsSigned w64 z → unsigned_abs z ≤ 2 ^ 66
wide_small z f = omega (arith, ints, f)
