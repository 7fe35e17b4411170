-- How far enclosed strains reach.
use Rattle.std.proofs.Common.{◌^◌, ◌≤◌, ℤ, pos, neg_ℤ, ◌≤ℤ◌, unsigned_abs, arith}
use Rattle.std.proofs.lemmas.Int.{ints}
use Rattle.lam_fraction.specs.numbers.Numbers.{Numbers, Lawful, RatioRoom}
use Rattle.lam_fraction.specs.inside.Reaches.{Reaches, sixteenths}
use Rattle.lam_fraction.proofs.numbers.Rooms.{reaches_ratio_at}
use Rattle.lam_solve.specs.Solutions.{IsShort}
use Rattle.lam_solve.specs.inside.Parts.{IsPart}

pub place_room : (place h : ℤ) → pos 1 ≤ℤ h → neg_ℤ h ≤ℤ place → place ≤ℤ h → unsigned_abs h ≤ 2 ^ 66 → RatioRoom place h
place_room place h thick inner outer small = record {
  positive = omega (arith, ints, thick);
  den = small;
  num = omega (arith, ints, inner, outer, thick, small);
  room = omega (arith, ints, inner, outer, thick);
}

module _ {A : Type 0} {n : Numbers A} (laws : Lawful n) where
  pub short_reaches : {z : A} → IsShort n z → Reaches n (sixteenths 44) z
  short_reaches h = record { far = omega (arith, h) }

  pub place_part : (place h : ℤ) → pos 1 ≤ℤ h → neg_ℤ h ≤ℤ place → place ≤ℤ h → unsigned_abs h ≤ 2 ^ 66 → IsPart n (n.calc.ratio place h)
  place_part place h thick inner outer small = reaches_ratio_at laws (sixteenths 16) place h (place_room place h thick inner outer small) (omega (arith, ints, thick, inner, outer))
