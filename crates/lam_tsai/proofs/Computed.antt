-- The criterion's whole numbers as a machine computes them, and the ratios of them that enclosures hold.
use Rattle.std.proofs.Common.{◌≡◌, sym, ap₂, subst₂, ℕ, ◌^◌, ◌≤◌, max, true, ◌&&◌, ℤ, pos, ◌-ℤ◌, ◌*ℤ◌, FitsSigned, w64, arith}
use Rattle.std.specs.Prelude.{unsigned_abs}
use Rattle.std.specs.Int.{int_min, int_max}
use Rattle.std.proofs.lemmas.Int.{ints, clamps, to_z-of_z}
use Rattle.lam_fraction.specs.numbers.Numbers.{RatioRoom}
use Rattle.lam_fraction.proofs.numbers.Machine.{Sized, sizes, stored-64, sized_between, sized_stored-64}
use Rattle.lam_fraction.proofs.numbers.Tests.{both-left, both-right}
use Rattle.lam_stock.specs.declared.item.Lamina.{Lamina}
use Rattle.lam_stock.specs.Limits.{IsStrength, AreWithinSixteen, KeepsStrengths}
use Rattle.lam_stock.proofs.StrengthBounds.{interaction_small}
use Rattle.lam_tsai.specs.inside.Formulas.{interaction}

-- ---- computed numbers
pub lesser_small : (m n : ℕ) (a b : ℤ) → unsigned_abs a ≤ m → unsigned_abs b ≤ n → unsigned_abs (int_min a b) ≤ max m n
lesser_small m n a b h k = omega (arith, ints, clamps, h, k)

pub greater_small : (m n : ℕ) (a b : ℤ) → unsigned_abs a ≤ m → unsigned_abs b ≤ n → unsigned_abs (int_max a b) ≤ max m n
greater_small m n a b h k = omega (arith, ints, clamps, h, k)

pub word_small : (z : ℤ) → FitsSigned w64 z → unsigned_abs z ≤ 2 ^ 63
word_small z h = omega (arith, ints, h)

abbrev pub sized_lesser : {a b : ℤ} → Sized a → Sized b → Sized (int_min a b)
sized_lesser s t = record {
  exact = int_min s.exact t.exact;
  size = max s.size t.size;
  fits = s.fits && t.fits;
  is = λ h. ap₂ int_min (s.is (both-left _ _ h)) (t.is (both-right _ _ h));
  small = λ h. lesser_small s.size t.size s.exact t.exact (s.small (both-left _ _ h)) (t.small (both-right _ _ h));
}

abbrev pub sized_greater : {a b : ℤ} → Sized a → Sized b → Sized (int_max a b)
sized_greater s t = record {
  exact = int_max s.exact t.exact;
  size = max s.size t.size;
  fits = s.fits && t.fits;
  is = λ h. ap₂ int_max (s.is (both-left _ _ h)) (t.is (both-right _ _ h));
  small = λ h. greater_small s.size t.size s.exact t.exact (s.small (both-left _ _ h)) (t.small (both-right _ _ h));
}

-- a number of 64 bits, of which no more is known, read back from them
abbrev pub sized_kept : {z : ℤ} → FitsSigned w64 z → Sized (stored-64 z)
sized_kept {z} h = record { exact = z; size = 2 ^ 63; fits = true; is = λ t. to_z-of_z w64 z h; small = λ t. word_small z h }

-- a strength, read back from its bits
abbrev pub sized_strength : {x : ℤ} → IsStrength x → Sized (stored-64 x)
sized_strength h = sized_stored-64 (sized_between h.least h.greatest)

pub ruleset computed = (sized_lesser, sized_greater, sizes)

-- ---- ratios in range
pub linear_room : {t c : ℤ} → IsStrength t → IsStrength c → AreWithinSixteen t c → RatioRoom (c -ℤ t) (pos 256 *ℤ int_min t c)
linear_room p q near = record {
  positive = omega (arith, ints, clamps, p.least, q.least);
  den = omega (arith, ints, clamps, p.least, q.least, p.greatest, q.greatest);
  num = omega (arith, ints, p.least, q.least, p.greatest, q.greatest);
  room = omega (arith, ints, clamps, p.least, q.least, near.first, near.second);
}

pub quadratic_room : {t c : ℤ} → IsStrength t → IsStrength c → AreWithinSixteen t c → RatioRoom (int_max t c) (pos 16 *ℤ int_min t c)
quadratic_room p q near = record {
  positive = omega (arith, ints, clamps, p.least, q.least);
  den = omega (arith, ints, clamps, p.least, q.least, p.greatest, q.greatest);
  num = omega (arith, ints, clamps, p.least, q.least, p.greatest, q.greatest);
  room = omega (arith, ints, clamps, p.least, q.least, near.first, near.second);
}

small_room : (z : ℤ) → unsigned_abs z ≤ 14000000000000000000 → RatioRoom z (pos 8000000000000000000)
small_room z h = record {
  positive = omega (arith, ints);
  den = omega (arith, ints);
  num = omega (arith, ints, h);
  room = omega (arith, ints, h);
}

pub mixed_room : {l : Lamina} → KeepsStrengths l → RatioRoom (interaction l) (pos 8000000000000000000)
mixed_room {l} h = small_room (interaction l) (interaction_small h)

-- of numbers that are the exact ones
pub in_room : {num den x y : ℤ} → num ≡ x → den ≡ y → RatioRoom x y → RatioRoom num den
in_room e f room = subst₂ RatioRoom (sym e) (sym f) room
