-- What is known of the enclosures of a reach: what they hold, and how wide they are, for every kind of enclosure.
use Rattle.std.proofs.Common.{refl, ℕ, ◌*◌, ◌^◌, ◌≤◌, ℤ, pos, ◌-ℤ◌, ◌*ℤ◌, unsigned_abs, arith}
use Rattle.std.specs.Int.{int_min, int_max}
use Rattle.std.proofs.lemmas.Int.{ints, clamps}
use Rattle.lam_fraction.specs.Fraction.{fraction}
use Rattle.lam_fraction.specs.inside.Known.{Bounds, Known}
use Rattle.lam_fraction.specs.inside.Size.{AtMost}
use Rattle.lam_fraction.specs.numbers.Arithmetic.{exact}
use Rattle.lam_fraction.specs.numbers.Numbers.{Numbers, Lawful}
use Rattle.lam_fraction.proofs.numbers.Steps.{known_ratio_at}
use Rattle.lam_fraction.proofs.numbers.Tracks.{Ruled, Tracked, tracked, given, bounded}
use Rattle.lam_stock.specs.declared.item.Lamina.{Lamina}
use Rattle.lam_stock.specs.Limits.{IsStrength, AreWithinSixteen, KeepsStrengths}
use Rattle.lam_stock.proofs.StrengthBounds.{interaction, interaction_small}
use Rattle.lam_support.specs.declared.slopes.PlyWeight.{PlyWeight}
use Rattle.lam_support.specs.declared.slopes.Slopes.{Slopes}
use Rattle.lam_support.specs.declared.surface.Surface.{Surface}
use Rattle.lam_support.specs.inside.Formulas as by
use Rattle.lam_support.specs.inside.Known.{AreSmall}
use Rattle.lam_support.proofs.SlopeFacts.{slope_room}
use Rattle.lam_support.proofs.SurfaceFacts.{ratio_room, shift_room, coupling_room, lesser_room, lesser_interaction, lesser_small}

-- in sixteenths, and a slop wide
abbrev pub one_slop : ℕ → Bounds
one_slop size = record { size = size; wide = 16 }

-- a thousand slops wide
abbrev pub coarsely : Bounds
coarsely = record { size = 1024; wide = 16000 }

module _ {A : Type 0} {n : Numbers A} (laws : Lawful n) where
  abbrev pub parts : Ruled n
  parts = record { laws = laws; d = 16; some = omega arith }

  sixteen : 1 ≤ 16
  sixteen = omega arith

  known-ratio : {t c : ℤ} → IsStrength t → IsStrength c → AreWithinSixteen t c → Known n 16 (one_slop 4) (by.ratio n.calc t c) (by.ratio exact t c)
  known-ratio {t} {c} p q near =
      known_ratio_at laws 16 sixteen (one_slop 4) (int_max t c) (pos 64 *ℤ int_min t c) (ratio_room p q near) (omega (arith, ints, clamps, p.least, q.least, near.first, near.second)) (omega arith)

  known-shift : {t c : ℤ} → IsStrength t → IsStrength c → Known n 16 (one_slop 16) (by.shift n.calc t c) (by.shift exact t c)
  known-shift {t} {c} p q =
      known_ratio_at laws 16 sixteen (one_slop 16) (c -ℤ t) (int_max t c) (shift_room p q) (omega (arith, ints, clamps, p.least, q.least)) (omega arith)

  coupling-size : (z : ℤ) → unsigned_abs z ≤ 14000000000000000000 → unsigned_abs z * 16 ≤ 4 * unsigned_abs (pos 64000000000000000000)
  coupling-size z h = omega (arith, ints, h)

  known-coupling : {l : Lamina} → KeepsStrengths l → Known n 16 (one_slop 4) (by.coupling n.calc l) (by.coupling exact l)
  known-coupling {l} h = known_ratio_at laws 16 sixteen (one_slop 4) (interaction l) (pos 64000000000000000000) (coupling_room h) (coupling-size (interaction l) (interaction_small h)) (omega arith)

  lesser-size : (z : ℤ) → unsigned_abs z ≤ 1000000000000000000 → unsigned_abs z * 16 ≤ 16 * unsigned_abs (pos 1000000000000000000)
  lesser-size z h = omega (arith, ints, h)

  known-lesser : {l : Lamina} → KeepsStrengths l → Known n 16 (one_slop 16) (by.lesser_coupling n.calc l) (by.lesser_coupling exact l)
  known-lesser {l} h = known_ratio_at laws 16 sixteen (one_slop 16) (lesser_interaction l) (pos 1000000000000000000) (lesser_room h) (lesser-size (lesser_interaction l) (lesser_small h)) (omega arith)

  known-slope : {m : ℕ} {w : ℤ} → 1 ≤ m → m ≤ 2 ^ 62 → AtMost m w → Known n 16 (one_slop 16) (n.calc.ratio w (pos m)) (fraction w (pos m))
  known-slope {m} {w} some few within = known_ratio_at laws 16 sixteen (one_slop 16) w (pos m) (slope_room some few within) (omega (arith, ints, within.size)) (omega arith)

  -- the surface and the slopes, with what is known of each
  abbrev surface-known : {l : Lamina} → KeepsStrengths l → Surface (Tracked parts)
  surface-known h = record {
    along = given (known-ratio h.range.xt h.range.xc h.ratio.along);
    across = given (known-ratio h.range.yt h.range.yc h.ratio.across);
    coupling = given (known-coupling h);
    rest = by.rest (tracked parts) (given (known-lesser h)) (given (known-coupling h));
    shift_along = given (known-shift h.range.xt h.range.xc);
    shift_across = given (known-shift h.range.yt h.range.yc);
  }

  abbrev slopes-known : {v : PlyWeight} {m : ℕ} → 1 ≤ m → m ≤ 2 ^ 62 → AreSmall m v → Slopes (Tracked parts)
  slopes-known some few small = record {
    along = given (known-slope some few small.along);
    across = given (known-slope some few small.across);
    shear = given (known-slope some few small.shear);
  }

  pub known_rest : {l : Lamina} → KeepsStrengths l → Known n 16 coarsely (by.surface n.calc l).rest (by.surface exact l).rest
  known_rest h = bounded parts (surface-known h).rest coarsely refl

  pub known_square : {l : Lamina} {v : PlyWeight} {m : ℕ} → KeepsStrengths l → 1 ≤ m → m ≤ 2 ^ 62 → AreSmall m v
      → Known n 16 coarsely (by.square n.calc (by.surface n.calc l) (by.slopes n.calc v (pos m))) (by.square exact (by.surface exact l) (by.slopes exact v (pos m)))
  known_square h some few small = bounded parts (by.square (tracked parts) (surface-known h) (slopes-known some few small)) coarsely refl

  pub known_lean : {l : Lamina} {v : PlyWeight} {m : ℕ} → KeepsStrengths l → 1 ≤ m → m ≤ 2 ^ 62 → AreSmall m v
      → Known n 16 coarsely (by.lean n.calc (by.surface n.calc l) (by.slopes n.calc v (pos m))) (by.lean exact (by.surface exact l) (by.slopes exact v (pos m)))
  known_lean h some few small = bounded parts (by.lean (tracked parts) (surface-known h) (slopes-known some few small)) coarsely refl
