-- What a machine computes in 64 and in 128 bits: the exact numbers, where each fits. Search finds how a number was
-- computed, through all casts, and its size is computed along: `fits_in_128 (search (sizes, c) depth 30 fits 9000) refl`.
use Rattle.std.proofs.Common.{◌≡◌, refl, sym, ap, ap₂, ◌∙◌, subst, subst₂, ℕ, ◌+◌, ◌-◌, ◌*◌, ◌^◌, ◌≤◌, max, Bool, true, ◌&&◌, leb, ℤ, pos, negsuc, neg_ℤ, ◌+ℤ◌, ◌-ℤ◌, ◌*ℤ◌, ◌≤ℤ◌, ◌<ℤ◌, unsigned_abs, FitsSigned, to_z, of_z, w64, arith}
use Rattle.std.specs.Int.{w128}
use Rattle.std.proofs.Math.Nat.{mul-le-mul}
use Rattle.std.proofs.lemmas.Int.{ints, to_z-of_z, unsigned_abs-mul, fits_signed_from_abs, to_z_pos}
use Rattle.lam_fraction.specs.numbers.Numbers.{RatioRoom}
use Rattle.lam_fraction.specs.inside.Size.{AtMost}
use Rattle.lam_fraction.proofs.numbers.Tests.{both-left, both-right, tested}

-- a number, read back from its bits
abbrev pub stored-64 : ℤ → ℤ
stored-64 z = to_z w64 (of_z w64 z)

abbrev pub stored-128 : ℤ → ℤ
stored-128 z = to_z w128 (of_z w128 z)

-- a computed number: the exact one that it is where all fit, and a bound of its size
pub record Sized (z : ℤ) : Type 0 where
  pub exact : ℤ
  pub size : ℕ
  pub fits : Bool
  pub is : fits ≡ true → z ≡ exact
  pub small : fits ≡ true → unsigned_abs exact ≤ size

-- ---- what is proved of each

pub sum_small : (m n : ℕ) (a b : ℤ) → unsigned_abs a ≤ m → unsigned_abs b ≤ n → unsigned_abs (a +ℤ b) ≤ m + n
sum_small m n a b h k = omega (arith, ints, h, k)

pub difference_small : (m n : ℕ) (a b : ℤ) → unsigned_abs a ≤ m → unsigned_abs b ≤ n → unsigned_abs (a -ℤ b) ≤ m + n
difference_small m n a b h k = omega (arith, ints, h, k)

pub product_small : (m n : ℕ) (a b : ℤ) → unsigned_abs a ≤ m → unsigned_abs b ≤ n → unsigned_abs (a *ℤ b) ≤ m * n
product_small m n a b h k = subst (λ x. x ≤ m * n) (sym (unsigned_abs-mul a b)) (mul-le-mul h k)

pub opposite_small : (m : ℕ) (a : ℤ) → unsigned_abs a ≤ m → unsigned_abs (neg_ℤ a) ≤ m
opposite_small m a h = omega (arith, ints, h)

pub number_small : (n : ℕ) → unsigned_abs (pos n) ≤ n
number_small n = omega (arith, ints)

pub below_zero_small : (n : ℕ) → unsigned_abs (negsuc n) ≤ n + 1
below_zero_small n = omega (arith, ints)

pub between_small : (z m n : ℤ) → m ≤ℤ z → z ≤ℤ n → unsigned_abs z ≤ max (unsigned_abs m) (unsigned_abs n)
between_small z m n h k = omega (arith, ints, h, k)

fits-64 : (n : ℕ) (z : ℤ) → unsigned_abs z ≤ n → n + 1 ≤ 2 ^ 63 → FitsSigned w64 z
fits-64 n z h room = fits_signed_from_abs w64 z (omega (arith, h, room))

fits-128 : (n : ℕ) (z : ℤ) → unsigned_abs z ≤ n → n + 1 ≤ 2 ^ 127 → FitsSigned w128 z
fits-128 n z h room = fits_signed_from_abs w128 z (omega (arith, h, room))

-- it fits by its size
abbrev pub within : {z : ℤ} → Sized z → ℕ → Bool
within s n = s.fits && leb s.size n

size_of : {z : ℤ} (s : Sized z) → s.fits ≡ true → unsigned_abs z ≤ s.size
size_of s h = subst (λ x. unsigned_abs x ≤ s.size) (sym (s.is h)) (s.small h)

-- ---- answers

pub fits_in_64 : {z : ℤ} (s : Sized z) → within s (2 ^ 63 - 1) ≡ true → FitsSigned w64 z
fits_in_64 {z} s h = let room = tested s.size (2 ^ 63 - 1) (both-right s.fits (leb s.size (2 ^ 63 - 1)) h) in fits-64 s.size z (size_of s (both-left _ _ h)) (omega (arith, room))

pub fits_in_128 : {z : ℤ} (s : Sized z) → within s (2 ^ 127 - 1) ≡ true → FitsSigned w128 z
fits_in_128 {z} s h = let room = tested s.size (2 ^ 127 - 1) (both-right s.fits (leb s.size (2 ^ 127 - 1)) h) in fits-128 s.size z (size_of s (both-left _ _ h)) (omega (arith, room))

-- the number is the exact one
pub is_exact : {z : ℤ} (s : Sized z) → s.fits ≡ true → z ≡ s.exact
is_exact s h = s.is h

-- the number is at most n in size
pub size_at_most : (z : ℤ) (n : ℕ) (s : Sized z) → within s n ≡ true → unsigned_abs z ≤ n
size_at_most z n s h = let room = tested s.size n (both-right s.fits (leb s.size n) h) in let size = size_of s (both-left _ _ h) in omega (arith, room, size)

pub at_most : {n : ℕ} {z : ℤ} (s : Sized z) → within s n ≡ true → AtMost n z
at_most {n} {z} s h = record { size = size_at_most z n s h }

-- the room of a ratio, from the exact numerator and denominator
pub ratio_in_room : {num den : ℤ} (s : Sized num) (t : Sized den) → (within s (2 ^ 66) && within t (2 ^ 66)) ≡ true → pos 0 <ℤ t.exact → unsigned_abs s.exact ≤ 6 * unsigned_abs t.exact → RatioRoom num den
ratio_in_room {num} {den} s t h positive room =
    let first = both-left (within s (2 ^ 66)) (within t (2 ^ 66)) h in
    let second = both-right (within s (2 ^ 66)) (within t (2 ^ 66)) h in
    let first_is = s.is (both-left s.fits (leb s.size (2 ^ 66)) first) in
    let second_is = t.is (both-left t.fits (leb t.size (2 ^ 66)) second) in
    record {
      positive = subst (λ x. pos 0 <ℤ x) (sym second_is) positive;
      den = size_at_most den (2 ^ 66) t second;
      num = size_at_most num (2 ^ 66) s first;
      room = subst₂ (λ x y. unsigned_abs x ≤ 6 * unsigned_abs y) (sym first_is) (sym second_is) room;
    }

-- ---- how a number was computed

abbrev pub sized_sum : {a b : ℤ} → Sized a → Sized b → Sized (a +ℤ b)
sized_sum s t = record {
  exact = s.exact +ℤ t.exact;
  size = s.size + t.size;
  fits = s.fits && t.fits;
  is = λ h. ap₂ ◌+ℤ◌ (s.is (both-left _ _ h)) (t.is (both-right _ _ h));
  small = λ h. sum_small s.size t.size s.exact t.exact (s.small (both-left _ _ h)) (t.small (both-right _ _ h));
}

abbrev pub sized_difference : {a b : ℤ} → Sized a → Sized b → Sized (a -ℤ b)
sized_difference s t = record {
  exact = s.exact -ℤ t.exact;
  size = s.size + t.size;
  fits = s.fits && t.fits;
  is = λ h. ap₂ ◌-ℤ◌ (s.is (both-left _ _ h)) (t.is (both-right _ _ h));
  small = λ h. difference_small s.size t.size s.exact t.exact (s.small (both-left _ _ h)) (t.small (both-right _ _ h));
}

abbrev pub sized_product : {a b : ℤ} → Sized a → Sized b → Sized (a *ℤ b)
sized_product s t = record {
  exact = s.exact *ℤ t.exact;
  size = s.size * t.size;
  fits = s.fits && t.fits;
  is = λ h. ap₂ ◌*ℤ◌ (s.is (both-left _ _ h)) (t.is (both-right _ _ h));
  small = λ h. product_small s.size t.size s.exact t.exact (s.small (both-left _ _ h)) (t.small (both-right _ _ h));
}

abbrev pub sized_opposite : {a : ℤ} → Sized a → Sized (neg_ℤ a)
sized_opposite s = record {
  exact = neg_ℤ s.exact;
  size = s.size;
  fits = s.fits;
  is = λ h. ap neg_ℤ (s.is h);
  small = λ h. opposite_small s.size s.exact (s.small h);
}

abbrev pub sized_stored-64 : {z : ℤ} → Sized z → Sized (to_z w64 (of_z w64 z))
sized_stored-64 {z} s = record {
  exact = s.exact;
  size = s.size;
  fits = within s (2 ^ 63 - 1);
  is = λ h. to_z-of_z w64 z (fits_in_64 s h) ∙ s.is (both-left _ _ h);
  small = λ h. s.small (both-left _ _ h);
}

abbrev pub sized_stored-128 : {z : ℤ} → Sized z → Sized (to_z w128 (of_z w128 z))
sized_stored-128 {z} s = record {
  exact = s.exact;
  size = s.size;
  fits = within s (2 ^ 127 - 1);
  is = λ h. to_z-of_z w128 z (fits_in_128 s h) ∙ s.is (both-left _ _ h);
  small = λ h. s.small (both-left _ _ h);
}

-- by the value clause of the call that gave it
abbrev pub sized_result : {r z : ℤ} → r ≡ z → Sized z → Sized r
sized_result e s = record { exact = s.exact; size = s.size; fits = s.fits; is = λ h. e ∙ s.is h; small = s.small }

abbrev pub sized_number : (n : ℕ) → Sized (pos n)
sized_number n = record { exact = pos n; size = n; fits = true; is = λ h. refl; small = λ h. number_small n }

abbrev pub sized_below_zero : (n : ℕ) → Sized (negsuc n)
sized_below_zero n = record { exact = negsuc n; size = n + 1; fits = true; is = λ h. refl; small = λ h. below_zero_small n }

abbrev pub sized_given : {n : ℕ} {z : ℤ} → unsigned_abs z ≤ n → Sized z
sized_given {n} {z} room = record { exact = z; size = n; fits = true; is = λ h. refl; small = λ h. room }

abbrev pub sized_at_most : {n : ℕ} {z : ℤ} → AtMost n z → Sized z
sized_at_most {n} {z} room = record { exact = z; size = n; fits = true; is = λ h. refl; small = λ h. room.size }

-- between two whole numbers
abbrev pub sized_between : {m n z : ℤ} → m ≤ℤ z → z ≤ℤ n → Sized z
sized_between {m} {n} {z} least most = record { exact = z; size = max (unsigned_abs m) (unsigned_abs n); fits = true; is = λ h. refl; small = λ h. between_small z m n least most }

natural-64 : (n m : ℕ) → n ≤ m → m + 1 ≤ 2 ^ 63 → to_z w64 n ≡ pos n
natural-64 n m h room = to_z_pos w64 n (omega (arith, h, room))

natural-128 : (n m : ℕ) → n ≤ m → m + 1 ≤ 2 ^ 127 → to_z w128 n ≡ pos n
natural-128 n m h room = to_z_pos w128 n (omega (arith, h, room))

pub natural_is-64 : (n m : ℕ) → n ≤ m → leb m (2 ^ 63 - 1) ≡ true → to_z w64 n ≡ pos n
natural_is-64 n m h t = let room = tested m (2 ^ 63 - 1) t in natural-64 n m h (omega (arith, room))

pub natural_is-128 : (n m : ℕ) → n ≤ m → leb m (2 ^ 127 - 1) ≡ true → to_z w128 n ≡ pos n
natural_is-128 n m h t = let room = tested m (2 ^ 127 - 1) t in natural-128 n m h (omega (arith, room))

pub natural_small : (n m : ℕ) → n ≤ m → unsigned_abs (pos n) ≤ m
natural_small n m h = omega (arith, ints, h)

-- a number without a sign, read as one with a sign
abbrev pub sized_natural-64 : {n m : ℕ} → n ≤ m → Sized (to_z w64 n)
sized_natural-64 {n} {m} room = record { exact = pos n; size = m; fits = leb m (2 ^ 63 - 1); is = λ h. natural_is-64 n m room h; small = λ h. natural_small n m room }

abbrev pub sized_natural-128 : {n m : ℕ} → n ≤ m → Sized (to_z w128 n)
sized_natural-128 {n} {m} room = record { exact = pos n; size = m; fits = leb m (2 ^ 127 - 1); is = λ h. natural_is-128 n m room h; small = λ h. natural_small n m room }

pub ruleset sizes = (sized_difference, sized_sum, sized_product, sized_opposite, sized_stored-64, sized_stored-128, sized_number, sized_below_zero, sized_natural-64, sized_natural-128, sized_result, sized_at_most, sized_given, sized_between)
