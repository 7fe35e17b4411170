-- How far the steps of a reach go, and how large their ends are.
use Rattle.std.proofs.Common.{◌≡◌, refl, sym, subst, ℕ, ◌+◌, ◌*◌, ◌^◌, ◌≤◌, ℤ, pos, ◌≤ℤ◌, arith}
use Rattle.std.proofs.Math.Nat.{pow-le-pow_right}
use Rattle.std.proofs.lemmas.Int.{ints}
use Rattle.lam_fraction.specs.inside.Reaches.{Reaches, sixteenths}
use Rattle.lam_fraction.specs.inside.Size.{AtMost}
use Rattle.lam_fraction.specs.numbers.Ends as ends
use Rattle.lam_fraction.specs.numbers.Numbers.{Numbers, unit, reach, Lawful}
use Rattle.lam_fraction.proofs.numbers.Machine.{stored-64, is_exact, sized_stored-64, sized_at_most}
use Rattle.lam_fraction.proofs.numbers.Rooms.{ranges, reaching, reaches_more, reaches_root, reach_within}
use Rattle.lam_fraction.proofs.numbers.Steps.{high-within}
use Rattle.lam_fraction.proofs.numbers.Tests.{tested}
use Rattle.lam_support.specs.declared.slopes.Slopes.{Slopes}
use Rattle.lam_support.specs.declared.surface.Surface.{Surface}
use Rattle.lam_support.specs.inside.Formulas as by
use Rattle.lam_support.specs.inside.Known.{ReachSurface, ReachSlopes}

module _ {A : Type 0} {n : Numbers A} (laws : Lawful n) where
  pub square_reaches : {s : Surface A} {a : Slopes A} → ReachSurface n s → ReachSlopes n a → Reaches n (sixteenths 48) (by.square n.calc s a)
  square_reaches h k =
      let t = by.square (ranges laws)
      (record { along = reaching h.along; across = reaching h.across; coupling = reaching h.coupling; rest = reaching h.rest; shift_along = reaching h.shift_along; shift_across = reaching h.shift_across })
      (record { along = reaching k.along; across = reaching k.across; shear = reaching k.shear }) in
      reaches_more laws (t.reaches refl) (tested _ _ refl)

  pub lean_reaches : {s : Surface A} {a : Slopes A} → ReachSurface n s → ReachSlopes n a → Reaches n (sixteenths 28 + 4) (by.lean n.calc s a)
  lean_reaches h k =
      let t = by.lean (ranges laws)
      (record { along = reaching h.along; across = reaching h.across; coupling = reaching h.coupling; rest = reaching h.rest; shift_along = reaching h.shift_along; shift_across = reaching h.shift_across })
      (record { along = reaching k.along; across = reaching k.across; shear = reaching k.shear }) in
      reaches_more laws (t.reaches refl) (tested _ _ refl)

  pub root_reaches : {z : A} → Reaches n (sixteenths 48) z → pos 0 ≤ℤ n.high z → Reaches n (sixteenths 28 + 4) (n.root z)
  root_reaches h sign = reaches_root laws (sixteenths 28) h (tested _ _ refl) sign (tested _ _ refl)

  pub high_in_room : {z : A} → Reaches n (sixteenths 48) z → n.high z ≤ℤ pos (6 * unit n)
  high_in_room {z} h = let room = reach_within laws h (tested _ _ refl) in omega (arith, ints, high-within (n.low z) (n.high z), room)

  fine-unit : unit n ≤ 2 ^ 60
  fine-unit = pow-le-pow_right {n = 2} (omega arith) laws.fits

  reach-small : {z : A} → Reaches n (sixteenths 28 + 4) z → reach n z ≤ 2 ^ 61
  reach-small {z} h = omega (arith, h.far, fine-unit)

  within-reach : (low high : ℤ) (m : ℕ) → ends.reach low high ≤ m → (AtMost m low) × (AtMost m high)
  unfolding ends.reach
  within-reach low high m h = (record { size = omega (arith, ints, h) }, record { size = omega (arith, ints, h) })

  pub low_small : {z : A} → Reaches n (sixteenths 28 + 4) z → AtMost (2 ^ 61) (n.low z)
  low_small {z} h = (within-reach (n.low z) (n.high z) (2 ^ 61) (reach-small h)).0

  pub high_small : {z : A} → Reaches n (sixteenths 28 + 4) z → AtMost (2 ^ 61) (n.high z)
  high_small {z} h = (within-reach (n.low z) (n.high z) (2 ^ 61) (reach-small h)).1

-- an end, read back from its bits
pub stored_end : {x : ℤ} → AtMost (2 ^ 61) x → stored-64 x ≡ x
stored_end h = is_exact (sized_stored-64 (sized_at_most h)) refl

pub stored_as_small : {x y : ℤ} → x ≡ y → AtMost (2 ^ 61) y → AtMost (2 ^ 61) (stored-64 x)
stored_as_small {x} e h = let k = subst (AtMost (2 ^ 61)) (sym e) h in subst (AtMost (2 ^ 61)) (sym (stored_end k)) k
