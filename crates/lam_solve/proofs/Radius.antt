-- The radius round a centre, and the guesses that are near.
use Rattle.std.proofs.Common.{◌≡◌, refl, ℕ, ◌*◌, ◌^◌, ◌<◌, ◌≤◌, ◌⊎◌, inl, inr, max, Bool, true, false, cond, nat_le, pos, ◌≤ℤ◌, arith}
use Rattle.std.proofs.lemmas.Bool.{cases_lt}
use Rattle.std.proofs.lemmas.Bool.Decides.{nat_tests}
use Rattle.std.proofs.lemmas.Int.{ints}
use Rattle.lam_fraction.specs.numbers.Ends as ends
use Rattle.lam_fraction.specs.numbers.Numbers.{Numbers, Lawful, unit}
use Rattle.lam_stock.specs.declared.scale.Scale.{Scale}
use Rattle.lam_solve.specs.declared.six.Six.{Six}
use Rattle.lam_solve.specs.declared.six.Ends.{Ends}
use Rattle.lam_solve.specs.declared.strains.Guess.{Guess}
use Rattle.lam_solve.specs.Solutions.{HasComponentAbove}
use Rattle.lam_solve.specs.inside.Enclosed.{end_reach, greatest_size, guess_size, is_near, radius}
use Rattle.lam_solve.specs.inside.Parts.{IsScaled, SmallEnds, SmallGuess, SmallResidual}
use Rattle.lam_solve.proofs.Units.{unit_least, unit_most, over_unit_small, left_small, over_floor_small}

-- ---- the radius

pub end-small : {m : ℕ} {e : Ends} → SmallEnds m e → end_reach e ≤ m
unfolding ends.reach
end-small h = omega (arith, h.low.size, h.high.size)

pub floor-most : {scale : Scale} → IsScaled scale → scale.floor ≤ℤ pos 2097152
floor-most is = omega (arith, ints, is.order, is.most)

greatest_small : {r : Six Ends} → SmallResidual r → greatest_size r ≤ 50 * 2 ^ 120
greatest_small h = omega (arith, end-small h.ex, end-small h.ey, end-small h.g, end-small h.kx, end-small h.ky, end-small h.kg)

pub radius-small : {A : Type 0} {n : Numbers A} (laws : Lawful n) {scale : Scale} {r : Six Ends} → IsScaled scale → SmallResidual r → radius n scale r ≤ 2 ^ 112
radius-small laws is small =
    over_floor_small _ _ (left_small _ _ (over_unit_small _ _ (greatest_small small) (unit_least laws)) (omega (arith, ints, is.above, is.most))) (omega (arith, ints, is.floor))

-- ---- guesses that are near

six_above : (m a b c d e f : ℕ) → m < max (max (max a b) c) (max (max d e) f) → (m < a) ⊎ ((m < b) ⊎ ((m < c) ⊎ ((m < d) ⊎ ((m < e) ⊎ (m < f)))))
six_above m a b c d e f h =
    elim (cases_lt m a) [
      | inl x ↦ inl x
      | inr p ↦ inr (
          elim (cases_lt m b) [
            | inl x ↦ inl x
            | inr q ↦ inr (
                elim (cases_lt m c) [
                  | inl x ↦ inl x
                  | inr r ↦ inr (
                      elim (cases_lt m d) [
                        | inl x ↦ inl x
                        | inr s ↦ inr (
                            elim (cases_lt m e) [ inl x ↦ inl x | inr t ↦ inr (omega (arith, h, p, q, r, s, t)) ])
                      ])
                ])
          ])
    ]

none_above : (m a b c d e f : ℕ) → max (max (max a b) c) (max (max d e) f) ≤ m → (m < a) ⊎ ((m < b) ⊎ ((m < c) ⊎ ((m < d) ⊎ ((m < e) ⊎ (m < f))))) → ⊥
none_above m a b c d e f h (inl x) = omega (arith, h, x)
none_above m a b c d e f h (inr (inl x)) = omega (arith, h, x)
none_above m a b c d e f h (inr (inr (inl x))) = omega (arith, h, x)
none_above m a b c d e f h (inr (inr (inr (inl x)))) = omega (arith, h, x)
none_above m a b c d e f h (inr (inr (inr (inr (inl x))))) = omega (arith, h, x)
none_above m a b c d e f h (inr (inr (inr (inr (inr x))))) = omega (arith, h, x)

passed : (m n : ℕ) → nat_le m n ≡ true → m ≤ n
passed m n h = grind (arith, nat_tests)

refused : (m n : ℕ) → nat_le m n ≡ false → n < m
refused m n h = grind (arith, nat_tests)

module _ {A : Type 0} (n : Numbers A) (c : Guess) where
  pub near-most : is_near n c ≡ true → guess_size c ≤ 4 * unit n
  near-most h = passed (guess_size c) (4 * unit n) h

  pub near-none : is_near n c ≡ true → HasComponentAbove 4 n c → ⊥
  near-none h above = none_above (4 * unit n) _ _ _ _ _ _ (near-most h) above

  pub far-some : is_near n c ≡ false → HasComponentAbove 4 n c
  far-some h = six_above (4 * unit n) _ _ _ _ _ _ (refused (guess_size c) (4 * unit n) h)

  pub near-small : Lawful n → is_near n c ≡ true → SmallGuess c
  near-small laws h =
      let most = near-most h in
      let one = unit_most laws in
      record {
        ex = record { size = omega (arith, most, one) };
        ey = record { size = omega (arith, most, one) };
        g = record { size = omega (arith, most, one) };
        kx = record { size = omega (arith, most, one) };
        ky = record { size = omega (arith, most, one) };
        kg = record { size = omega (arith, most, one) };
      }

pub chosen : {X : Type 0} (b : Bool) (x y : X) → b ≡ true → x ≡ cond b x y
chosen true x y e = refl
chosen false x y e = absurd (cc)
