-- Where a level fails, the value of the criterion is above 1.
use Rattle.std.proofs.Common.{◌≡◌, refl, sym, subst, subst₂, Bool, true, false, ℤ, pos, neg_ℤ, ◌<ℤ◌, int_lt, arith}
use Rattle.std.specs.Prelude.{if◌then◌else◌}
use Rattle.std.proofs.lemmas.Int.{ints}
use Rattle.lam_fraction.specs.Fraction.{ℚ, whole, ◌-ℚ◌, ◌*ℚ◌, ◌/ℚ◌, inverse, ◌≤ℚ◌, ◌<ℚ◌}
use Rattle.lam_fraction.specs.numbers.Numbers.{Numbers, Lawful, Holds, unit}
use Rattle.lam_fraction.proofs.Expression.{int, ◌⊖◌, ◌⊗◌}
use Rattle.lam_fraction.proofs.Solver.{◌≐◌}
use Rattle.lam_fraction.proofs.FractionBounds.{whole_positive}
use Rattle.lam_fraction.proofs.FractionPairs.{whole-lt}
use Rattle.lam_fraction.proofs.Rationals.{above, at_most, at_most_then_below, below_then_at_most, decide, inverse_positive, not_zero, positive_number, solve, weaken, ◌*ₙ◌}
use Rattle.lam_fraction.proofs.WholeFractions.{whole_below}
use Rattle.lam_fraction.proofs.numbers.Steps.{one_unit}
use Rattle.lam_number.specs.Signs.{sign_of}
use Rattle.lam_number.specs.declared.enclosure.Sign.TheVariants.{Below, Above, Mixed}
use Rattle.lam_number.specs.declared.strength.Verdict.TheVariants.{Meets, Fails, Straddles}
use Rattle.lam_tsai.specs.Levels.{IsLevel, by_sign, level_value, margin_of, verdict_of}
use Rattle.lam_tsai.specs.declared.place.Level.{Level}
use Rattle.lam_tsai.specs.declared.place.Level.TheVariants.{Near, Far}
use Rattle.lam_tsai.proofs.Ordered.{is_below}

-- ---- the ends of a level that fails

met : Meets ≡ Fails → ⊥
met e = cc

straddles : Straddles ≡ Fails → ⊥
straddles e = cc

sign-fails : (low high margin : ℤ) → by_sign (sign_of low high margin) ≡ Fails → margin <ℤ low
sign-fails low high margin e = go (int_lt high (neg_ℤ margin)) refl (int_lt margin low) refl
  where
    go : (s : Bool) → int_lt high (neg_ℤ margin) ≡ s → (t : Bool) → int_lt margin low ≡ t → margin <ℤ low
    go s d true f = is_below margin low f
    go true d false f = absurd (met (subst₂ (λ a b. by_sign (if a then Below else (if b then Above else Mixed)) ≡ Fails) d f e))
    go false d false f = absurd (straddles (subst₂ (λ a b. by_sign (if a then Below else (if b then Above else Mixed)) ≡ Fails) d f e))

-- ---- the value

abbrev part : ℚ
part = inverse (whole (pos 4096))

near-value : (f : ℚ) → f ≤ℚ whole (pos 2) → level_value f ≡ (f -ℚ whole (pos 1)) *ℚ part
unfolding level_value ◌/ℚ◌
near-value f h = rw (h.le) refl

-- it is not above 0 where the value is at most 1
not-positive : (f : ℚ) → f ≤ℚ whole (pos 1) → level_value f ≤ℚ whole (pos 0)
unfolding ◌-ℚ◌
not-positive f h =
    let two : f ≤ℚ whole (pos 2) = weaken (at_most_then_below h (whole_below {m = pos 1} {n = pos 2} (omega (arith, ints)))) in
    subst (λ z. z ≤ℚ whole (pos 0)) (sym (near-value f two))
    (at_most (weaken (inverse_positive (positive_number 4095)) *ₙ above h) (solve 2 (λ f i. int (pos 0) ⊖ (f ⊖ int (pos 1)) ⊗ i ≐ i ⊗ (int (pos 1) ⊖ f)) refl f part))

scaled : (x u : ℚ) → x ≤ℚ whole (pos 0) → whole (pos 0) ≤ℚ u → x *ℚ u ≤ℚ whole (pos 0)
unfolding ◌-ℚ◌
scaled x u h k = at_most (above h *ₙ k) (solve 2 (λ x u. int (pos 0) ⊖ x ⊗ u ≐ (int (pos 0) ⊖ x) ⊗ u) refl x u)

module _ {A : Type 0} {n : Numbers A} (laws : Lawful n) where
  above-one : (v : A) (f : ℚ) → pos 0 <ℤ n.low v → Holds n v (level_value f) → whole (pos 1) <ℚ f
  above-one v f h k = decide f (whole (pos 1))
      (λ le.
      let least : whole (pos 0) <ℚ level_value f *ℚ whole (pos (unit n)) = below_then_at_most ((whole-lt (pos 0) (n.low v)).1 h) k.encloses.from in
      let scale = whole_positive {d = pos (unit n)} (omega (arith, ints, one_unit laws)) in
      let most : level_value f *ℚ whole (pos (unit n)) ≤ℚ whole (pos 0) = scaled (level_value f) (whole (pos (unit n))) (not-positive f le) (weaken scale) in
      absurd (not_zero (below_then_at_most least most) refl))
      (λ more. more)

  pub fails-above-one : (l : Level A) (f : ℚ) → IsLevel n l f → verdict_of n l ≡ Fails → whole (pos 1) <ℚ f
  fails-above-one (Near v) f h e =
      let more = sign-fails (n.low v) (n.high v) (margin_of n) e in
      above-one v f (omega (arith, ints, more)) h
  fails-above-one Far f h e = below_then_at_most (whole_below {m = pos 1} {n = pos 2} (omega (arith, ints))) (weaken h)
