-- The strains round a centre hold what lies within the radius of its residual and is at most 5/2 in size.
use Rattle.std.proofs.Common.{◌≡◌, refl, ◌∙◌, ap, ℕ, suc, ◌+◌, ◌-◌, ◌*◌, ◌/◌, ◌^◌, ◌≤◌, ℤ, pos, ◌+ℤ◌, ◌-ℤ◌, ◌*ℤ◌, ◌≤ℤ◌, ◌<ℤ◌, unsigned_abs, arith}
use Rattle.std.proofs.Math.Nat.{mul-le-mul_right, le_of_mul-le-mul_right, pow-suc}
use Rattle.std.proofs.lemmas.Int.{ints, clamps}
use Rattle.lam_fraction.specs.Fraction.{ℚ, fraction}
use Rattle.lam_fraction.specs.numbers.Numbers.{Numbers, Lawful, Holds, RatioRoom, HullRoom, reach, unit}
use Rattle.lam_fraction.specs.numbers.Rounding.{floor_over}
use Rattle.lam_fraction.specs.inside.Size.{AtMost}
use Rattle.lam_fraction.proofs.numbers.Consequences.{hull_holds}
use Rattle.lam_fraction.proofs.numbers.Steps.{one_unit}
use Rattle.lam_solve.specs.Solutions.{IsShort}
use Rattle.lam_solve.specs.StrainBounds.{IsWithin}
use Rattle.lam_solve.specs.inside.Enclosed.{around}
use Rattle.lam_solve.specs.inside.Steps.{cut}
use Rattle.lam_solve.proofs.Units.{unit_most, unit_least}
use Rattle.lam_solve.proofs.energy.Units.{Between, within-units, cut-units, between-fractions}

-- ---- what is cut

cut_size : (most : ℕ) (z : ℤ) → unsigned_abs (cut (pos most) z) ≤ most
cut_size most z = omega (arith, ints, clamps)

-- five halves of one, in units, are a whole number
half-unit : (s : ℕ) → 28 ≤ s → pos 2 *ℤ pos (5 * 2 ^ s / 2) ≡ pos 5 *ℤ pos (2 ^ s)
half-unit s h = by_half (2 ^ s) (2 ^ (s - 1)) (let e : s ≡ suc (s - 1) = omega (arith, h) in ap (λ k. 2 ^ k) e ∙ pow-suc 2 (s - 1))
  where
    by_half : (u v : ℕ) → u ≡ v * 2 → pos 2 *ℤ pos (5 * u / 2) ≡ pos 5 *ℤ pos u
    by_half u v e = omega (arith, ints, e)

-- ---- round a centre

module _ {A : Type 0} {n : Numbers A} (laws : Lawful n) where
  pub end_room : (z : ℤ) → RatioRoom (cut (pos (5 * unit n / 2)) z) (pos (unit n))
  end_room z =
      let size = cut_size (5 * unit n / 2) z in
      let most = unit_most laws in
      let one = one_unit laws in
      record {
        positive = omega (arith, ints, one);
        den = omega (arith, ints, most);
        num = omega (arith, size, most);
        room = omega (arith, ints, size);
      }

  end_far : (z : ℤ) → reach n (n.calc.ratio (cut (pos (5 * unit n / 2)) z) (pos (unit n))) ≤ 5 * unit n / 2 + n.slop
  end_far z =
      let far = (laws.ratio _ _ (end_room z)).far in
      let times : unsigned_abs (cut (pos (5 * unit n / 2)) z) * unit n ≤ (5 * unit n / 2) * unit n = mul-le-mul_right (unit n) (cut_size (5 * unit n / 2) z) in
      le_of_mul-le-mul_right {k = unit n} (omega (arith, ints, far, times)) (omega (arith, one_unit laws))

  pub around-room : (c : ℤ) (r : ℕ) → HullRoom n (n.calc.ratio (cut (pos (5 * unit n / 2)) (c -ℤ pos r)) (pos (unit n))) (n.calc.ratio (cut (pos (5 * unit n / 2)) (c +ℤ pos r)) (pos (unit n)))
  around-room c r =
      let low = end_far (c -ℤ pos r) in
      let high = end_far (c +ℤ pos r) in
      let least = unit_least laws in
      record { first = omega (arith, low, least, laws.narrow); second = omega (arith, high, least, laws.narrow) }

  pub around-short : (c : ℤ) (r : ℕ) → IsShort n (around n c r)
  around-short c r =
      let low = end_far (c -ℤ pos r) in
      let high = end_far (c +ℤ pos r) in
      let least = unit_least laws in
      let far = (laws.hull _ _ (around-room c r)).far in
      omega (arith, low, high, least, laws.narrow, far)

  -- what lies within the radius of the centre and is at most 5/2 in size is held
  pub around-holds : (c : ℤ) (r : ℕ) (x : ℚ) → Between (pos (unit n)) (c -ℤ pos r) (c +ℤ pos r) x → IsWithin (fraction (pos 5) (pos 2)) x → Holds n (around n c r) x
  around-holds c r x near small =
      let most = pos (5 * unit n / 2) in
      let one : pos 0 <ℤ pos (unit n) = omega (arith, ints, one_unit laws) in
      let low = cut most (c -ℤ pos r) in
      let high = cut most (c +ℤ pos r) in
      let within = within-units (pos (unit n)) one most (half-unit n.scale laws.fine) small in
      let cut_to = between-fractions (pos (unit n)) one low high x (cut-units (pos (unit n)) one (c -ℤ pos r) (c +ℤ pos r) most x near within) in
      hull_holds laws (laws.hull _ _ (around-room c r)) (laws.ratio low (pos (unit n)) (end_room (c -ℤ pos r))).held (laws.ratio high (pos (unit n)) (end_room (c +ℤ pos r))).held cut_to.0 cut_to.1

-- ---- as it is computed

pub five-halves : (u : ℕ) → floor_over (pos (5 * u)) (2 ^ 1) ≡ pos (5 * u / 2)
unfolding floor_over
five-halves u = refl

pub five-halves-small : (u : ℕ) (z : ℤ) → z ≡ pos (5 * u / 2) → u ≤ 2 ^ 60 → AtMost (2 ^ 63) z
five-halves-small u z e h = record { size = omega (arith, ints, e, h) }

pub five-halves-sign : (u : ℕ) (z : ℤ) → z ≡ pos (5 * u / 2) → pos 0 ≤ℤ z
five-halves-sign u z e = omega (arith, ints, e)
