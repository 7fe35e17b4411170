-- Where a value that is settled to a level straddles, and what it holds round three middles.
use Rattle.std.proofs.Common.{◌≡◌, refl, sym, ◌∙◌, ap, subst, subst₂, ◌+◌, ◌-◌, ◌*◌, ◌/◌, ◌^◌, ◌≤◌, Bool, true, false, ℤ, pos, neg_ℤ, ◌+ℤ◌, ◌≤ℤ◌, int_lt, [], ◌∷◌, arith}
use Rattle.std.specs.Prelude.{if◌then◌else◌}
use Rattle.std.specs.Int.{int_min, int_max}
use Rattle.std.proofs.lemmas.Int.{ints, clamps}
use Rattle.lam_fraction.specs.Fraction.{ℚ, whole, fraction, ◌-ℚ◌, ◌*ℚ◌, ◌/ℚ◌, inverse, ◌≤ℚ◌}
use Rattle.lam_fraction.specs.numbers.Arithmetic.{exact}
use Rattle.lam_fraction.specs.numbers.Ends as ends
use Rattle.lam_fraction.specs.numbers.Numbers.{Numbers, Lawful, Holds, reach, unit}
use Rattle.lam_fraction.proofs.FractionBounds.{fraction-times}
use Rattle.lam_fraction.proofs.FractionPairs.{whole-le}
use Rattle.lam_fraction.proofs.Expression.{int, ◌⊕◌, ◌⊖◌, ◌⊗◌}
use Rattle.lam_fraction.proofs.Rationals.{quotes, by_ring, from₁, solve}
use Rattle.lam_fraction.proofs.Solver.{◌≐◌}
use Rattle.lam_fraction.proofs.WholeFractions.{inverse-product, inverse-whole}
use Rattle.lam_fraction.proofs.numbers.Consequences.{holds_units}
use Rattle.lam_fraction.proofs.numbers.Held.{held, holding}
use Rattle.lam_fraction.proofs.numbers.Rooms.{reach_within, reaches_ratio_at, ranges, reaching}
use Rattle.lam_fraction.proofs.numbers.Steps.{one_unit}
use Rattle.lam_fraction.proofs.numbers.Tests.{ratio_room}
use Rattle.lam_number.specs.Signs.{sign_of}
use Rattle.lam_number.specs.declared.enclosure.Sign.TheVariants.{Below, Above, Mixed}
use Rattle.lam_number.specs.declared.strength.Verdict.TheVariants.{Meets, Fails, Straddles}
use Rattle.lam_stock.specs.declared.item.Lamina.{Lamina}
use Rattle.lam_stock.specs.Limits.{KeepsStrengths}
use Rattle.lam_tsai.specs.declared.coefficients.Coefficients.{Coefficients}
use Rattle.lam_tsai.specs.declared.components.Components.{Components}
use Rattle.lam_tsai.specs.declared.loaded.Round.{Round}
use Rattle.lam_tsai.specs.declared.place.Level.TheVariants.{Near, Far}
use Rattle.lam_tsai.specs.Levels.{by_sign, margin_of, verdict_of}
use Rattle.lam_tsai.specs.inside.Formulas as by
use Rattle.lam_tsai.specs.inside.Reach.{ReachRound}
use Rattle.lam_tsai.specs.inside.Values as value
use Rattle.lam_tsai.proofs.Computed.{linear_room, quadratic_room, mixed_room}
use Rattle.lam_tsai.proofs.LoadedHeld.{HoldsRound}
use Rattle.lam_tsai.proofs.Ordered.{is_below, not_below}
use Rattle.lam_tsai.proofs.Reaching.{reach-coefficients}
use Rattle.lam_tsai.proofs.ScaledValue.{eighth}
use Rattle.lam_narrow.specs.Straddling.{IsFinest}
use Rattle.lam_narrow.proofs.MiddleValues.{sums}

-- ---- signs

meets-not : Meets ≡ Straddles → ⊥
meets-not e = cc

pub fails-not : Fails ≡ Straddles → ⊥
fails-not e = cc

-- a sign that does not meet
sign-not-met : (low high margin : ℤ) → ¬ (by_sign (sign_of low high margin) ≡ Meets) → neg_ℤ margin ≤ℤ high
sign-not-met low high margin not = go (int_lt high (neg_ℤ margin)) refl
  where
    go : (s : Bool) → int_lt high (neg_ℤ margin) ≡ s → neg_ℤ margin ≤ℤ high
    go true d = absurd (not (subst (λ a. by_sign (if a then Below else (if int_lt margin low then Above else Mixed)) ≡ Meets) (sym d) refl))
    go false d = not_below high (neg_ℤ margin) d

sign-straddles : (low high margin : ℤ) → by_sign (sign_of low high margin) ≡ Straddles → (neg_ℤ margin ≤ℤ high) × (low ≤ℤ margin)
sign-straddles low high margin e = go (int_lt high (neg_ℤ margin)) refl (int_lt margin low) refl
  where
    go : (s : Bool) → int_lt high (neg_ℤ margin) ≡ s → (t : Bool) → int_lt margin low ≡ t → (neg_ℤ margin ≤ℤ high) × (low ≤ℤ margin)
    go true d t f = absurd (meets-not (subst (λ a. by_sign (if a then Below else (if int_lt margin low then Above else Mixed)) ≡ Straddles) d e))
    go false d true f = absurd (fails-not (subst₂ (λ a b. by_sign (if a then Below else (if b then Above else Mixed)) ≡ Straddles) d f e))
    go false d false f = (not_below high (neg_ℤ margin) d, not_below margin low f)

-- ---- a value, settled

part-of-units : fraction (pos (2 ^ 48)) (pos (2 ^ 60)) ≡ fraction (pos 1) (pos 4096)
unfolding fraction ◌/ℚ◌ ◌-ℚ◌
part-of-units =
    ap (λ z. whole (pos (2 ^ 48)) *ℚ z) (inverse-product (pos (2 ^ 48)) (pos 4096) (omega (arith, ints)) (omega (arith, ints)) (omega (arith, ints)))
    ∙ from₁ (inverse (whole (pos 4096))) (inverse-whole (pos (2 ^ 48)) (omega (arith, ints)))
    (solve 3 (λ m i j. m ⊗ (i ⊗ j) ≐ int (pos 1) ⊗ j ⊕ j ⊗ (m ⊗ i ⊖ int (pos 1))) refl (whole (pos (2 ^ 48))) (inverse (whole (pos (2 ^ 48)))) (inverse (whole (pos 4096))))

module _ {A : Type 0} {n : Numbers A} (laws : Lawful n) (finest : IsFinest n) where
  pub unit-is : unit n ≡ 2 ^ 60
  unit-is = ap (λ k. 2 ^ k) finest.scale

  margin-is : margin_of n ≡ pos 16777216
  margin-is = ap (λ u. pos (u / 2 ^ 36)) unit-is

  two-is : pos (2 ^ (n.scale - 12)) ≡ pos (2 ^ 48)
  two-is = ap (λ k. pos (2 ^ (k - 12))) finest.scale

  abbrev one : A
  one = n.calc.ratio (pos 1) (pos 4096)

  one-reach : reach n one ≤ 6 * unit n
  one-reach = reach_within laws (reaches_ratio_at laws (2 ^ 16) (pos 1) (pos 4096) (ratio_room (pos 1) (pos 4096) refl) (omega (arith, ints))) (omega arith)

  -- an enclosure holds both its ends
  low-held : (z : A) → Holds n z (fraction (n.low z) (pos (unit n)))
  low-held z = holds_units laws (n.low z) (omega (arith, ints)) (laws.ordered z)

  high-held : (z : A) → Holds n z (fraction (n.high z) (pos (unit n)))
  high-held z = holds_units laws (n.high z) (laws.ordered z) (omega (arith, ints))

  end-from : {z : A} (end : ℤ) → Holds n z (fraction end (pos (unit n))) → (n.low z ≤ℤ end) × (end ≤ℤ n.high z)
  end-from {z} end h =
      let turned = fraction-times end (pos (unit n)) (omega (arith, ints, one_unit laws)) in
      ((whole-le (n.low z) end).0 (subst (λ t. whole (n.low z) ≤ℚ t) turned h.encloses.from), (whole-le end (n.high z)).0 (subst (λ t. t ≤ℚ whole (n.high z)) turned h.encloses.to))

  one-ends : (low high : ℤ) → ends.width low high ≤ n.slop → pos (2 ^ 48) ≤ℤ high → pos (2 ^ 40) ≤ℤ low
  unfolding ends.width
  one-ends low high h k = omega (arith, ints, h, k, finest.slop)

  -- the low end of 1/4096 is far above a margin
  one-low : pos (2 ^ 40) ≤ℤ n.low one
  one-low =
      let is = laws.ratio (pos 1) (pos 4096) (ratio_room (pos 1) (pos 4096) refl) in
      one-ends (n.low one) (n.high one) is.narrow (end-from (pos (2 ^ 48)) (subst (Holds n one) same is.held)).1
    where
      same : fraction (pos 1) (pos 4096) ≡ fraction (pos (2 ^ 48)) (pos (unit n))
      same = sym (ap (λ u. fraction (pos (2 ^ 48)) (pos u)) unit-is ∙ part-of-units)

  -- the low end of a hull is hardly below those of both
  hull-low : (a b c d e f : ℤ) → a ≤ℤ b → c ≤ℤ d → e ≤ℤ f → b ≤ℤ f → d ≤ℤ f → ends.width e f ≤ ends.width (int_min a c) (int_max b d) + 2 → int_min a c ≤ℤ (e +ℤ pos 2)
  unfolding ends.width
  hull-low a b c d e f ab cd ef bf df h = omega (arith, ints, clamps, ab, cd, ef, bf, df, h)

  module _ (v : A) (far : reach n v ≤ 6 * unit n) where
    hull-is : (int_min (n.low v) (n.low one) ≤ℤ (n.low (n.hull v one) +ℤ pos 2)) × (n.high v ≤ℤ n.high (n.hull v one))
    hull-is =
        let is = laws.hull v one (record { first = far; second = one-reach }) in
        let first = (end-from (n.high v) (is.first _ (high-held v))).1 in
        let second = (end-from (n.high one) (is.second _ (high-held one))).1 in
        (hull-low (n.low v) (n.high v) (n.low one) (n.high one) (n.low (n.hull v one)) (n.high (n.hull v one)) (laws.ordered v) (laws.ordered one) (laws.ordered (n.hull v one)) first second (omega (arith, is.narrow, finest.slop)), first)

    abbrev two : ℤ
    two = pos (2 ^ (n.scale - 12))

    -- a level that does not meet, and one that straddles
    pub settled-not-met : ¬ (verdict_of n (value.settled n v) ≡ Meets) → neg_ℤ (pos 16777216) ≤ℤ n.high v
    settled-not-met not = go (int_lt two (n.low v)) refl (int_lt two (n.high v)) refl
      where
        go : (s : Bool) → int_lt two (n.low v) ≡ s → (t : Bool) → int_lt two (n.high v) ≡ t → neg_ℤ (pos 16777216) ≤ℤ n.high v
        go true e t d = omega (arith, ints, is_below two (n.low v) e, laws.ordered v)
        go false e true d = omega (arith, ints, is_below two (n.high v) d)
        go false e false d =
            let plain : ¬ (verdict_of n (Near v) ≡ Meets) = subst₂ (λ a b. ¬ (verdict_of n (if a then Far else (if b then Near (n.hull v one) else Near v)) ≡ Meets)) e d not in
            subst (λ m. neg_ℤ m ≤ℤ n.high v) margin-is (sign-not-met (n.low v) (n.high v) (margin_of n) plain)

    pub settled-straddles : verdict_of n (value.settled n v) ≡ Straddles → (neg_ℤ (pos 16777216) ≤ℤ n.high v) × (n.low v ≤ℤ pos 16777220)
    settled-straddles straddles = go (int_lt two (n.low v)) refl (int_lt two (n.high v)) refl
      where
        go : (s : Bool) → int_lt two (n.low v) ≡ s → (t : Bool) → int_lt two (n.high v) ≡ t → (neg_ℤ (pos 16777216) ≤ℤ n.high v) × (n.low v ≤ℤ pos 16777220)
        go true e t d = absurd (fails-not (subst₂ (λ a b. verdict_of n (if a then Far else (if b then Near (n.hull v one) else Near v)) ≡ Straddles) e d straddles))
        go false e true d =
            let plain : verdict_of n (Near (n.hull v one)) ≡ Straddles = subst₂ (λ a b. verdict_of n (if a then Far else (if b then Near (n.hull v one) else Near v)) ≡ Straddles) e d straddles in
            let both = subst (λ m. (neg_ℤ m ≤ℤ n.high (n.hull v one)) × (n.low (n.hull v one) ≤ℤ m)) margin-is (sign-straddles (n.low (n.hull v one)) (n.high (n.hull v one)) (margin_of n) plain) in
            (omega (arith, ints, is_below two (n.high v) d), omega (arith, ints, clamps, hull-is.0, both.1, one-low))
        go false e false d =
            let plain : verdict_of n (Near v) ≡ Straddles = subst₂ (λ a b. verdict_of n (if a then Far else (if b then Near (n.hull v one) else Near v)) ≡ Straddles) e d straddles in
            let both = subst (λ m. (neg_ℤ m ≤ℤ n.high v) × (n.low v ≤ℤ m)) margin-is (sign-straddles (n.low v) (n.high v) (margin_of n) plain) in
            (both.0, omega (arith, ints, both.1))

-- ---- what it holds

-- the value at a distance is that at the point, with the slopes times the distances and the squares of these
round-is : (k : Coefficients ℚ) (m d : Components ℚ) → by.round_point exact k m d ≡ by.centre exact k (sums m d)
round-is k m d =
    from₁ (m.shear *ℚ d.shear) eighth
    (by_ring (k.along ∷ k.across ∷ k.along_square ∷ k.across_square ∷ k.mixed ∷ k.one ∷ m.along ∷ m.across ∷ m.shear ∷ d.along ∷ d.across ∷ d.shear ∷ inverse (whole (pos 8)) ∷ inverse (whole (pos 16)) ∷ []) (search quotes depth 40 fits 20000) refl)

module _ {A : Type 0} {n : Numbers A} (laws : Lawful n) {l : Lamina} (h : KeepsStrengths l) where
  -- round three middles
  pub round-holds : {x y s : Round A} {a b g : ℚ} → HoldsRound laws x a → HoldsRound laws y b → HoldsRound laws s g → ReachRound n x → ReachRound n y → ReachRound n s
      → Holds n (by.round_point n.calc (by.coefficients n.calc l) (value.middles n x y s) (value.spreads n x y s)) (by.centre exact (by.coefficients exact l) (record { along = a; across = b; shear = g }))
  round-holds {x} {y} {s} {a} {b} {g} hx hy hs rx ry rs =
      let r = reach-coefficients laws h in
      let t = by.round_point (held laws)
      (record {
        along = holding r.along (laws.ratio _ _ (linear_room h.range.xt h.range.xc h.ratio.along)).held;
        across = holding r.across (laws.ratio _ _ (linear_room h.range.yt h.range.yc h.ratio.across)).held;
        along_square = holding r.along_square (laws.ratio _ _ (quadratic_room h.range.xt h.range.xc h.ratio.along)).held;
        across_square = holding r.across_square (laws.ratio _ _ (quadratic_room h.range.yt h.range.yc h.ratio.across)).held;
        mixed = holding r.mixed (laws.ratio _ _ (mixed_room h)).held;
        one = holding r.one (laws.ratio (pos 1) (pos 4096) (ratio_room (pos 1) (pos 4096) refl)).held;
      })
      (record { along = holding rx.middle hx.at_middle; across = holding ry.middle hy.at_middle; shear = holding rs.middle hs.at_middle })
      (record { along = holding rx.spread hx.at_distance; across = holding ry.spread hy.at_distance; shear = holding rs.spread hs.at_distance }) in
      let m : Components ℚ = record { along = hx.middle; across = hy.middle; shear = hs.middle } in
      let d : Components ℚ = record { along = hx.distance; across = hy.distance; shear = hs.distance } in
      let moved : sums m d ≡ record { along = a; across = b; shear = g } = λ i. record { along = hx.sum i; across = hy.sum i; shear = hs.sum i } in
      subst (Holds n _) (round-is (by.coefficients exact l) m d ∙ ap (by.centre exact (by.coefficients exact l)) moved) (t.holds refl)

  pub round-reaches : {x y s : Round A} → ReachRound n x → ReachRound n y → ReachRound n s
      → reach n (by.round_point n.calc (by.coefficients n.calc l) (value.middles n x y s) (value.spreads n x y s)) ≤ 6 * unit n
  round-reaches rx ry rs =
      let r = reach-coefficients laws h in
      let t = by.round_point (ranges laws)
      (record { along = reaching r.along; across = reaching r.across; along_square = reaching r.along_square; across_square = reaching r.across_square; mixed = reaching r.mixed; one = reaching r.one })
      (record { along = reaching rx.middle; across = reaching ry.middle; shear = reaching rs.middle })
      (record { along = reaching rx.spread; across = reaching ry.spread; shear = reaching rs.spread }) in
      reach_within laws (t.reaches refl) (omega arith)
