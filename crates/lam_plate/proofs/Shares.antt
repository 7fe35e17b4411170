-- Two shares of a sum: each from 0 to 1.
use Rattle.std.proofs.Common.{◌+◌, ◌^◌, ℤ, pos, ◌+ℤ◌, ◌≤ℤ◌, arith}
use Rattle.std.proofs.lemmas.Int.{ints}
use Rattle.lam_fraction.specs.numbers.Numbers.{Numbers, Lawful, RatioRoom}
use Rattle.lam_fraction.specs.inside.Reaches.{Reaches, sixteenths}
use Rattle.lam_fraction.proofs.numbers.Rooms.{reaches_ratio_at}
use Rattle.lam_plate.specs.inside.Formulas as by

pub share-room : (part rest : ℤ) → pos 1 ≤ℤ part → part ≤ℤ pos 2000000000000000 → pos 1 ≤ℤ rest → rest ≤ℤ pos 2000000000000000 → RatioRoom part (part +ℤ rest)
share-room part rest h i j k = record {
  positive = omega (arith, ints, h, j);
  den = omega (arith, ints, h, i, j, k);
  num = omega (arith, ints, h, i);
  room = omega (arith, ints, h, j);
}

pub share-reach : {A : Type 0} {n : Numbers A} → Lawful n → (part rest : ℤ) → pos 1 ≤ℤ part → part ≤ℤ pos 2000000000000000 → pos 1 ≤ℤ rest → rest ≤ℤ pos 2000000000000000
    → Reaches n (sixteenths 16 + 4) (by.share n.calc part rest)
share-reach laws part rest h i j k = reaches_ratio_at laws (2 ^ 28) part (part +ℤ rest) (share-room part rest h i j k) (omega (arith, ints, h, j))
