-- How wide the enclosures of a plate in a number of half waves are, where the entries of its wall's D are at most 512 slops
-- wide: the product of the shares 4 slops, and the form 1100.
use Rattle.std.proofs.Common.{◌≡◌, refl, subst, ℕ, ◌*◌, ◌^◌, ◌≤◌, lit≤, ℤ, pos, ◌+ℤ◌, ◌≤ℤ◌, arith}
use Rattle.std.proofs.Math.Nat.{mul-le-mul_left}
use Rattle.std.proofs.lemmas.Int.{ints}
use Rattle.lam_fraction.specs.Fraction.{ℚ, whole, opposite, ◌*ℚ◌, ◌≤ℚ◌, ◌<ℚ◌, ◌-ℚ◌}
use Rattle.lam_fraction.specs.inside.Known.{Bounds, Known}
use Rattle.lam_fraction.specs.numbers.Arithmetic.{exact}
use Rattle.lam_fraction.specs.numbers.Numbers.{Numbers, Lawful, Holds, unit, reach, width}
use Rattle.lam_fraction.proofs.Expression.{int, ◌⊕◌, ◌⊖◌, ◌⊗◌, minus}
use Rattle.lam_fraction.proofs.Solver.{◌≐◌}
use Rattle.lam_fraction.proofs.Rationals.{solve, above, number, positive_number, at_most_over, ◌+ₙ◌, ◌*ₙ◌}
use Rattle.lam_fraction.proofs.FractionBounds.{whole_positive}
use Rattle.lam_fraction.proofs.WholeFractions.{whole_at_most, whole-opposite, natural-product}
use Rattle.lam_fraction.proofs.numbers.Consequences.{within_reach}
use Rattle.lam_fraction.proofs.numbers.Steps.{one_unit, known_ratio_at}
use Rattle.lam_fraction.proofs.numbers.Tracks.{Ruled, Tracked, tracked, given, bounded}
use Rattle.lam_lamina.specs.declared.stiffness.Sym3.{Sym3}
use Rattle.lam_lamina.specs.Held.{HoldsMatrix, NarrowMatrix}
use Rattle.lam_wall.specs.Assembled.{SmallMatrix}
use Rattle.lam_plate.specs.inside.Formulas as by
use Rattle.lam_plate.proofs.Shares.{share-room}
use Rattle.lam_plate.proofs.near.MissedTests.{Narrowly}

abbrev entry : Bounds
entry = record { size = 2; wide = 512 }

abbrev part : Bounds
part = record { size = 1; wide = 1 }

-- of an enclosure whose ends are at most 2
from_two : (x u r : ℚ) → whole (pos 0) <ℚ u → opposite r ≤ℚ x *ℚ u → r ≤ℚ whole (pos 2) *ℚ u → opposite (whole (pos 2)) ≤ℚ whole (pos 1) *ℚ x
unfolding ◌-ℚ◌
from_two x u r positive h k = at_most_over positive (above h +ₙ above k) (solve 3 (λ x u r. u ⊗ (int (pos 1) ⊗ x ⊖ minus (int (pos 2))) ≐ (x ⊗ u ⊖ minus r) ⊕ (int (pos 2) ⊗ u ⊖ r)) refl x u r)

to_two : (x u r : ℚ) → whole (pos 0) <ℚ u → x *ℚ u ≤ℚ r → r ≤ℚ whole (pos 2) *ℚ u → whole (pos 1) *ℚ x ≤ℚ whole (pos 2)
unfolding ◌-ℚ◌
to_two x u r positive h k = at_most_over positive (above h +ₙ above k) (solve 3 (λ x u r. u ⊗ (int (pos 2) ⊖ int (pos 1) ⊗ x) ≐ (r ⊖ x ⊗ u) ⊕ (int (pos 2) ⊗ u ⊖ r)) refl x u r)

module _ {A : Type 0} {n : Numbers A} (laws : Lawful n) where
  abbrev ruled : Ruled n
  ruled = record { laws = laws; d = 1; some = lit≤ tt }

  unit_above : whole (pos 0) <ℚ whole (pos (unit n))
  unit_above = whole_positive (omega (arith, ints, one_unit laws))

  known-entry : {z : A} {x : ℚ} → Holds n z x → reach n z ≤ 2 * unit n → width n z ≤ 512 * n.slop → Known n 1 entry z x
  known-entry {z} {x} h small narrow =
      let r = whole (pos (reach n z)) in
      let u = whole (pos (unit n)) in
      let inside = within_reach laws h in
      let most : r ≤ℚ whole (pos 2) *ℚ u = subst (λ t. r ≤ℚ t) (natural-product 2 (unit n)) (whole_at_most (omega (arith, ints, small))) in
      record {
        held = h;
        narrow = omega (arith, narrow);
        least = from_two x u r unit_above (subst (λ t. t ≤ℚ x *ℚ u) (whole-opposite (pos (reach n z))) inside.from) most;
        most = to_two x u r unit_above inside.to most;
      }

  module _ {d : Sym3 A} {e : Sym3 ℚ} (holds : HoldsMatrix n d e) (small : SmallMatrix n d) (narrow : NarrowMatrix 512 n d)
      (x y : ℤ) (some_x : pos 1 ≤ℤ x) (few_x : x ≤ℤ pos 2000000000000000) (some_y : pos 1 ≤ℤ y) (few_y : y ≤ℤ pos 2000000000000000) where
    abbrev entries : Sym3 (Tracked ruled)
    entries = record {
      xx = given (known-entry holds.xx small.xx narrow.xx);
      xy = given (known-entry holds.xy small.xy narrow.xy);
      yy = given (known-entry holds.yy small.yy narrow.yy);
      xs = given (known-entry holds.xs small.xs narrow.xs);
      ys = given (known-entry holds.ys small.ys narrow.ys);
      ss = given (known-entry holds.ss small.ss narrow.ss);
    }

    known-s : Known n 1 part (by.share n.calc x y) (by.share exact x y)
    known-s = known_ratio_at laws 1 (lit≤ tt) part x (x +ℤ y) (share-room x y some_x few_x some_y few_y) (omega (arith, ints, some_x, some_y)) (omega arith)

    known-t : Known n 1 part (by.share n.calc y x) (by.share exact y x)
    known-t = known_ratio_at laws 1 (lit≤ tt) part y (y +ℤ x) (share-room y x some_y few_y some_x few_x) (omega (arith, ints, some_x, some_y)) (omega arith)

    abbrev shares : Tracked ruled
    shares = (tracked ruled).product (given known-s) (given known-t)

    abbrev form : Tracked ruled
    form = by.form (tracked ruled) (by.bending (tracked ruled) entries) (given known-s) (given known-t) shares

    known-shares : Known n 1 (record { size = 2; wide = 4 }) shares.value shares.fraction
    known-shares = bounded ruled shares _ refl

    known-form : Known n 1 (record { size = 10; wide = 1100 }) form.value form.fraction
    known-form = bounded ruled form _ refl

    pub shares-narrow : width n (by.wave n.calc (by.bending n.calc d) x y).shares ≤ 16
    shares-narrow = let h = known-shares.narrow in omega (arith, h, mul-le-mul_left 4 laws.narrow)

    pub form-narrow : width n (by.wave n.calc (by.bending n.calc d) x y).form ≤ 4400
    form-narrow = let h = known-form.narrow in omega (arith, h, mul-le-mul_left 1100 laws.narrow)

-- at the finer scale these are small parts of what is held
pub narrowly : (g t : ℚ) (u wide narrow : ℕ) → u ≡ 2 ^ 60 → whole (pos 1) ≤ℚ whole (pos 12288) *ℚ g → whole (pos 1) ≤ℚ whole (pos 1099511627776) *ℚ t → wide ≤ 4400 → narrow ≤ 16
    → Narrowly g t (whole (pos u)) (whole (pos wide)) (whole (pos narrow))
unfolding ◌-ℚ◌
narrowly g t u wide narrow scaled g_least t_least few_wide few_narrow =
    let of_form : whole (pos 12288000000) *ℚ whole (pos wide) ≤ℚ whole (pos u) = subst (λ z. z ≤ℚ whole (pos u)) (natural-product 12288000000 wide) (whole_at_most (omega (arith, ints, scaled, few_wide))) in
    let of_shares : whole (pos 10995116277760000) *ℚ whole (pos narrow) ≤ℚ whole (pos u) = subst (λ z. z ≤ℚ whole (pos u)) (natural-product 10995116277760000 narrow) (whole_at_most (omega (arith, ints, scaled, few_narrow))) in
    record {
      form = at_most_over (positive_number 12287) (number u *ₙ above g_least +ₙ above of_form)
          (solve 3 (λ g u w. int (pos 12288) ⊗ (g ⊗ u ⊖ int (pos 1000000) ⊗ w) ≐ u ⊗ (int (pos 12288) ⊗ g ⊖ int (pos 1)) ⊕ (u ⊖ int (pos 12288000000) ⊗ w)) refl g (whole (pos u)) (whole (pos wide)));
      shares = at_most_over (positive_number 1099511627775) (number u *ₙ above t_least +ₙ above of_shares)
          (solve 3 (λ t u w. int (pos 1099511627776) ⊗ (t ⊗ u ⊖ int (pos 10000) ⊗ w) ≐ u ⊗ (int (pos 1099511627776) ⊗ t ⊖ int (pos 1)) ⊕ (u ⊖ int (pos 10995116277760000) ⊗ w)) refl t (whole (pos u)) (whole (pos narrow)));
    }
