-- What a level says of the Tsai-Wu value.
use Rattle.std.proofs.Common.{◌≡◌, refl, sym, ◌∙◌, ap, subst, ◌-◌, ◌*◌, ◌^◌, ◌≤◌, Bool, true, false, ◌||◌, ◌⊎◌, inl, inr, Some, [], ◌∷◌, ℤ, pos, neg_ℤ, ◌≤ℤ◌, int_lt, arith}
use Rattle.std.proofs.lemmas.Int.{ints}
use Rattle.lam_fraction.specs.Fraction.{ℚ, whole, fraction, ◌+ℚ◌, ◌-ℚ◌, ◌*ℚ◌, ◌/ℚ◌, inverse, ◌≤ℚ◌, ◌<ℚ◌}
use Rattle.lam_fraction.specs.inside.Reaches.{Reaches, sixteenths}
use Rattle.lam_fraction.specs.numbers.Arithmetic.{exact}
use Rattle.lam_fraction.specs.numbers.Numbers.{Numbers, Lawful, Holds, reach, unit}
use Rattle.lam_fraction.proofs.Expression.{int, ◌⊕◌, ◌⊖◌, ◌⊗◌}
use Rattle.lam_fraction.proofs.Solver.{◌≐◌}
use Rattle.lam_fraction.proofs.Rationals.{quotes, by_ring, solve, from₁, weaken, above, strictly_above, at_most, below_over, at_most_over, decide, positive_number, inverse_positive, reflexive, transitive, number, ◌+ₙ◌, ◌*ₙ◌, ◌*ₚ◌}
use Rattle.lam_fraction.proofs.WholeFractions.{whole_below}
use Rattle.lam_fraction.proofs.FractionPairs.{whole-le}
use Rattle.lam_fraction.proofs.numbers.Consequences.{above_margin, hull_holds, parts_at_most}
use Rattle.lam_fraction.proofs.numbers.Held.{held, holding}
use Rattle.lam_fraction.proofs.numbers.Rooms.{reach_within, reaches_ratio_at, reaches_more}
use Rattle.lam_fraction.proofs.numbers.Steps.{one_unit}
use Rattle.lam_fraction.proofs.numbers.Tests.{ratio_room}
use Rattle.lam_stock.specs.declared.item.Lamina.{Lamina}
use Rattle.lam_stock.specs.Limits.{KeepsStrengths}
use Rattle.lam_stock.specs.PlyLaw.{OffAxis, OnAxis, side_stress}
use Rattle.lam_stock.specs.TsaiWu.{criterion, times_factor}
use Rattle.lam_stock.specs.declared.item.Item.{Item}
use Rattle.lam_stock.specs.declared.scale.Scale.{Scale}
use Rattle.lam_number.specs.declared.strength.FaceStrain.{FaceStrain}
use Rattle.lam_stock.proofs.StrengthBounds.{positive_strengths}
use Rattle.lam_tsai.specs.declared.coefficients.Coefficients.{Coefficients}
use Rattle.lam_tsai.specs.declared.components.Components.{Components}
use Rattle.lam_tsai.specs.declared.loaded.Loaded.{Loaded}
use Rattle.lam_tsai.specs.declared.loaded.Round.{Round}
use Rattle.lam_tsai.specs.declared.place.Side.{Side}
use Rattle.lam_tsai.specs.declared.place.Side.TheVariants.{Plus, Minus}
use Rattle.lam_tsai.specs.FaceStrains.{HoldsStrain, IsWithinSix}
use Rattle.lam_tsai.specs.Levels.{level_value, IsLevel, side_of, value_at}
use Rattle.lam_tsai.specs.Listed.{IsItemOf}
use Rattle.lam_tsai.specs.inside.Formulas as by
use Rattle.lam_tsai.specs.inside.Reach.{ReachRound, ReachStress}
use Rattle.lam_tsai.specs.inside.Values as value
use Rattle.lam_tsai.proofs.CoefficientLimits.{value-least, along-beyond, across-beyond, shear-beyond}
use Rattle.lam_tsai.proofs.Computed.{linear_room, quadratic_room, mixed_room}
use Rattle.lam_tsai.proofs.LoadedHeld.{HoldsLoaded, HoldsRound, or-cases, loaded-held, beyond-held, rounded-held, part-of-unit}
use Rattle.lam_tsai.proofs.ItemFacts.{item-limits, item-covered, item-strengths, scale-above, reach-criterion}
use Rattle.lam_tsai.proofs.Reaching.{reach-coefficients, reach-stress}
use Rattle.lam_tsai.proofs.Stresses.{HoldsComponents, stress_numbers, stress-held}
use Rattle.lam_tsai.proofs.Ordered.{is_below, not_below}
use Rattle.lam_tsai.proofs.ScaledValue.{unit_value, inverse_4096, eighth, shares_of, value-is}

-- ---- the value of a level

abbrev part : ℚ
part = inverse (whole (pos 4096))

part-positive : whole (pos 0) <ℚ part
part-positive = inverse_positive (positive_number 4095)

-- of a value of at most 2
near-value : (f : ℚ) → f ≤ℚ whole (pos 2) → level_value f ≡ (f -ℚ whole (pos 1)) *ℚ part
unfolding level_value ◌/ℚ◌
near-value f h = rw (h.le) refl

-- of a greater one
far-value : (f : ℚ) → whole (pos 2) <ℚ f → level_value f ≡ (whole (pos 2) -ℚ whole (pos 1)) *ℚ part
unfolding level_value ◌/ℚ◌
far-value f h = rw (h.lt) refl

one-part : (whole (pos 2) -ℚ whole (pos 1)) *ℚ part ≡ fraction (pos 1) (pos 4096)
unfolding fraction ◌/ℚ◌ ◌-ℚ◌
one-part = solve 1 (λ i. (int (pos 2) ⊖ int (pos 1)) ⊗ i ≐ int (pos 1) ⊗ i) refl part

-- it is above 0 where the value is above 1
pub value-positive : (f : ℚ) → whole (pos 1) <ℚ f → whole (pos 0) <ℚ level_value f
value-positive f more = decide f (whole (pos 2))
    (λ h. subst (λ z. whole (pos 0) <ℚ z) (sym (near-value f h)) (strictly_above more *ₚ part-positive))
    (λ h. subst (λ z. whole (pos 0) <ℚ z) (sym (far-value f h)) (strictly_above (whole_below {m = pos 1} {n = pos 2} (omega (arith, ints))) *ₚ part-positive))

-- it is at most that of 2, and at least that of -57
value-most : (f : ℚ) → level_value f ≤ℚ fraction (pos 1) (pos 4096)
unfolding fraction ◌/ℚ◌ ◌-ℚ◌
value-most f = decide f (whole (pos 2))
    (λ h. subst (λ z. z ≤ℚ fraction (pos 1) (pos 4096)) (sym (near-value f h))
    (at_most (weaken part-positive *ₙ above h) (solve 2 (λ f i. int (pos 1) ⊗ i ⊖ (f ⊖ int (pos 1)) ⊗ i ≐ i ⊗ (int (pos 2) ⊖ f)) refl f part)))
    (λ h. subst (λ z. z ≤ℚ fraction (pos 1) (pos 4096)) (sym (far-value f h ∙ one-part)) (reflexive (fraction (pos 1) (pos 4096))))

value-low : (f : ℚ) → whole (pos 0) ≤ℚ whole (pos 8) *ℚ f +ℚ whole (pos 450) → fraction (neg_ℤ (pos 58)) (pos 4096) ≤ℚ level_value f
unfolding fraction ◌/ℚ◌ ◌-ℚ◌
value-low f least = decide f (whole (pos 2))
    (λ h. subst (λ z. fraction (neg_ℤ (pos 58)) (pos 4096) ≤ℚ z) (sym (near-value f h))
    (at_most_over {k = whole (pos 8)} (positive_number 7) (weaken part-positive *ₙ (least +ₙ number 6)) (solve 2 (λ f i. int (pos 8) ⊗ ((f ⊖ int (pos 1)) ⊗ i ⊖ int (neg_ℤ (pos 58)) ⊗ i) ≐ i ⊗ ((int (pos 8) ⊗ f ⊕ int (pos 450)) ⊕ int (pos 6))) refl f part)))
    (λ h. subst (λ z. fraction (neg_ℤ (pos 58)) (pos 4096) ≤ℚ z) (sym (far-value f h))
    (at_most (number 59 *ₙ weaken part-positive) (solve 1 (λ i. (int (pos 2) ⊖ int (pos 1)) ⊗ i ⊖ int (neg_ℤ (pos 58)) ⊗ i ≐ int (pos 59) ⊗ i) refl part)))

-- ---- round a point

-- a point and the distances from it
abbrev sums : Components ℚ → Components ℚ → Components ℚ
sums m d = record { along = m.along +ℚ d.along; across = m.across +ℚ d.across; shear = m.shear +ℚ d.shear }

-- the value at a distance is that at the point, with the slopes times the distances and the squares of these
round-is : (k : Coefficients ℚ) (m d : Components ℚ) → by.round_point exact k m d ≡ by.centre exact k (sums m d)
round-is k m d =
    from₁ (m.shear *ℚ d.shear) eighth
    (by_ring (k.along ∷ k.across ∷ k.along_square ∷ k.across_square ∷ k.mixed ∷ k.one ∷ m.along ∷ m.across ∷ m.shear ∷ d.along ∷ d.across ∷ d.shear ∷ inverse (whole (pos 8)) ∷ inverse (whole (pos 16)) ∷ []) (search quotes depth 40 fits 20000) refl)

-- each coefficient holds its number
record HoldsCoefficients {A : Type 0} (n : Numbers A) (c : Coefficients A) (k : Coefficients ℚ) : Type 0 where
  along : Holds n c.along k.along
  across : Holds n c.across k.across
  along_square : Holds n c.along_square k.along_square
  across_square : Holds n c.across_square k.across_square
  mixed : Holds n c.mixed k.mixed
  one : Holds n c.one k.one

module _ {A : Type 0} {n : Numbers A} (laws : Lawful n) where
  one-held : Holds n (n.calc.ratio (pos 1) (pos 4096)) (fraction (pos 1) (pos 4096))
  one-held = (laws.ratio (pos 1) (pos 4096) (ratio_room (pos 1) (pos 4096) refl)).held

  one-reach : reach n (n.calc.ratio (pos 1) (pos 4096)) ≤ 6 * unit n
  one-reach = reach_within laws (reaches_ratio_at laws (2 ^ 16) (pos 1) (pos 4096) (ratio_room (pos 1) (pos 4096) refl) (omega (arith, ints))) (omega arith)

  low-reach : reach n (n.calc.ratio (neg_ℤ (pos 58)) (pos 4096)) ≤ 6 * unit n
  low-reach = reach_within laws (reaches_ratio_at laws (sixteenths 1) (neg_ℤ (pos 58)) (pos 4096) (ratio_room (neg_ℤ (pos 58)) (pos 4096) refl) (omega (arith, ints))) (omega arith)

  -- ---- nothing is known
  pub unknown-held : (f : ℚ) → whole (pos 0) ≤ℚ whole (pos 8) *ℚ f +ℚ whole (pos 450) → IsLevel n (value.unknown n) f
  unknown-held f least =
      hull_holds laws (laws.hull (n.calc.ratio (neg_ℤ (pos 58)) (pos 4096)) (n.calc.ratio (pos 1) (pos 4096)) (record { first = low-reach; second = one-reach }))
      (laws.ratio (neg_ℤ (pos 58)) (pos 4096) (ratio_room (neg_ℤ (pos 58)) (pos 4096) refl)).held one-held (value-low f least) (value-most f)

  -- ---- the value is known

  two-is : fraction (pos (2 ^ (n.scale - 12))) (pos (unit n)) ≡ part
  two-is = part-of-unit laws 12 (omega arith)

  above-two : (f : ℚ) → part <ℚ unit_value *ℚ (f -ℚ whole (pos 1)) → whole (pos 2) <ℚ f
  unfolding ◌-ℚ◌
  above-two f h =
      below_over {k = part} part-positive (strictly_above (subst (λ u. part <ℚ u *ℚ (f -ℚ whole (pos 1))) (sym inverse_4096) h))
      (solve 2 (λ f i. i ⊗ (f ⊖ int (pos 2)) ≐ i ⊗ (f ⊖ int (pos 1)) ⊖ i) refl f part)

  at-most-two : (f : ℚ) → unit_value *ℚ (f -ℚ whole (pos 1)) ≤ℚ part → f ≤ℚ whole (pos 2)
  unfolding ◌-ℚ◌
  at-most-two f h =
      at_most_over {k = part} part-positive (above (subst (λ u. u *ℚ (f -ℚ whole (pos 1)) ≤ℚ part) (sym inverse_4096) h))
      (solve 2 (λ f i. i ⊗ (int (pos 2) ⊖ f) ≐ i ⊖ i ⊗ (f ⊖ int (pos 1))) refl f part)

  turned : (f : ℚ) → unit_value *ℚ (f -ℚ whole (pos 1)) ≡ (f -ℚ whole (pos 1)) *ℚ part
  unfolding ◌-ℚ◌
  turned f = ap (λ u. u *ℚ (f -ℚ whole (pos 1))) (sym inverse_4096) ∙ solve 2 (λ f i. i ⊗ (f ⊖ int (pos 1)) ≐ (f ⊖ int (pos 1)) ⊗ i) refl f part

  near-held : {z : A} (f : ℚ) → f ≤ℚ whole (pos 2) → Holds n z (unit_value *ℚ (f -ℚ whole (pos 1))) → Holds n z (level_value f)
  near-held {z} f h k = subst (Holds n z) (turned f ∙ sym (near-value f h)) k

  pub settled-held : {v : A} (f : ℚ) → Reaches n (sixteenths 90) v → Holds n v (unit_value *ℚ (f -ℚ whole (pos 1))) → IsLevel n (value.settled n v) f
  settled-held {v} f far h = go (int_lt (pos (2 ^ (n.scale - 12))) (n.low v)) refl (int_lt (pos (2 ^ (n.scale - 12))) (n.high v)) refl
    where
      go : (s : Bool) → int_lt (pos (2 ^ (n.scale - 12))) (n.low v) ≡ s → (t : Bool) → int_lt (pos (2 ^ (n.scale - 12))) (n.high v) ≡ t → IsLevel n (value.settled n v) f
      go true e t d = rw e (above-two f (subst (λ z. z <ℚ unit_value *ℚ (f -ℚ whole (pos 1))) two-is (above_margin laws (pos (2 ^ (n.scale - 12))) (is_below _ (n.low v) e) h)))
      go false e true d =
          let is = laws.hull v (n.calc.ratio (pos 1) (pos 4096)) (record { first = reach_within laws far (omega arith); second = one-reach }) in
          rw (e, d) (decide f (whole (pos 2))
          (λ k. is.first (level_value f) (near-held f k h))
          (λ k. is.second (level_value f) (subst (Holds n (n.calc.ratio (pos 1) (pos 4096))) (sym (far-value f k ∙ one-part)) one-held)))
      go false e false d =
          rw (e, d) (near-held f (at-most-two f (subst (λ z. unit_value *ℚ (f -ℚ whole (pos 1)) ≤ℚ z) two-is
          (parts_at_most (unit n) (one_unit laws) (pos (2 ^ (n.scale - 12))) _ (transitive h.encloses.to ((whole-le (n.high v) _).1 (not_below _ (n.high v) d)))))) h)

  -- ---- the coefficients

  coefficients-held : {l : Lamina} → KeepsStrengths l → HoldsCoefficients n (by.coefficients n.calc l) (by.coefficients exact l)
  coefficients-held h = record {
    along = (laws.ratio _ _ (linear_room h.range.xt h.range.xc h.ratio.along)).held;
    across = (laws.ratio _ _ (linear_room h.range.yt h.range.yc h.ratio.across)).held;
    along_square = (laws.ratio _ _ (quadratic_room h.range.xt h.range.xc h.ratio.along)).held;
    across_square = (laws.ratio _ _ (quadratic_room h.range.yt h.range.yc h.ratio.across)).held;
    mixed = (laws.ratio _ _ (mixed_room h)).held;
    one = one-held;
  }

  -- ---- round three middles

  module _ {l : Lamina} (strengths : KeepsStrengths l) (u : OnAxis) where
    abbrev f : ℚ
    f = criterion l u

    abbrev c : Coefficients A
    c = by.coefficients n.calc l

    point-held : {x y s : Round A} (hx : HoldsRound laws x (shares_of l u).along) (hy : HoldsRound laws y (shares_of l u).across) (hs : HoldsRound laws s (shares_of l u).shear)
        → ReachRound n x → ReachRound n y → ReachRound n s
        → IsLevel n (value.settled n (by.round_point n.calc c (value.middles n x y s) (value.spreads n x y s))) f
    point-held hx hy hs rx ry rs =
        let r = reach-coefficients laws strengths in
        let k = coefficients-held strengths in
        let t = by.round_point (held laws)
        (record { along = holding r.along k.along; across = holding r.across k.across; along_square = holding r.along_square k.along_square; across_square = holding r.across_square k.across_square; mixed = holding r.mixed k.mixed; one = holding r.one k.one })
        (record { along = holding rx.middle hx.at_middle; across = holding ry.middle hy.at_middle; shear = holding rs.middle hs.at_middle })
        (record { along = holding rx.spread hx.at_distance; across = holding ry.spread hy.at_distance; shear = holding rs.spread hs.at_distance }) in
        let m : Components ℚ = record { along = hx.middle; across = hy.middle; shear = hs.middle } in
        let d : Components ℚ = record { along = hx.distance; across = hy.distance; shear = hs.distance } in
        let moved : sums m d ≡ shares_of l u = λ i. record { along = hx.sum i; across = hy.sum i; shear = hs.sum i } in
        settled-held f (reaches_more laws (t.at.reaches refl) (omega arith))
        (subst (Holds n _) (round-is (by.coefficients exact l) m d ∙ ap (by.centre exact (by.coefficients exact l)) moved ∙ value-is l u (positive_strengths strengths)) (t.holds refl))

    pub near-level : {x y s : Loaded A} → HoldsLoaded n x (shares_of l u).along → HoldsLoaded n y (shares_of l u).across → HoldsLoaded n s (shares_of l u).shear
        → IsLevel n (value.near n c (value.rounded n x) (value.rounded n y) (value.rounded n s)) f
    near-level {x} {y} {s} hx hy hs =
        let unknown = unknown-held f (value-least strengths u) in
        rounded-held laws hx (λ ox. IsLevel n (value.near n c ox (value.rounded n y) (value.rounded n s)) f) unknown (λ rx kx fx.
        rounded-held laws hy (λ oy. IsLevel n (value.near n c (Some rx) oy (value.rounded n s)) f) unknown (λ ry ky fy.
        rounded-held laws hs (λ os. IsLevel n (value.near n c (Some rx) (Some ry) os) f) unknown (λ rs ks fs. point-held kx ky ks fx fy fs)))

    pub between-level : {x y s : Loaded A} → HoldsLoaded n x (shares_of l u).along → HoldsLoaded n y (shares_of l u).across → HoldsLoaded n s (shares_of l u).shear
        → IsLevel n (value.level_between n c x y s) f
    between-level {x} {y} {s} hx hy hs = go (value.beyond n x || (value.beyond n y || value.beyond n s)) refl
      where
        far : (value.beyond n x ≡ true) ⊎ ((value.beyond n y || value.beyond n s) ≡ true) → whole (pos 2) <ℚ f
        far (inl e) = along-beyond strengths u (beyond-held laws hx e)
        far (inr e) = elim (or-cases laws (value.beyond n y) (value.beyond n s) e) [
          | inl d ↦ across-beyond strengths u (beyond-held laws hy d)
          | inr d ↦ shear-beyond strengths u (beyond-held laws hs d)
        ]

        go : (t : Bool) → (value.beyond n x || (value.beyond n y || value.beyond n s)) ≡ t → IsLevel n (value.level_between n c x y s) f
        go true e = rw e (far (or-cases laws (value.beyond n x) (value.beyond n y || value.beyond n s) e))
        go false e = rw e (near-level hx hy hs)

-- ---- the public call

module _ {A : Type 0} {n : Numbers A} (laws : Lawful n) {scale : Scale} {i : Item} (is : IsItemOf scale i) where
  pub level-held : (side : Side) (at : FaceStrain A) (r : ℤ) → IsWithinSix n at → pos 0 ≤ℤ r → r ≤ℤ pos 20000 → (e : OffAxis) → HoldsStrain n at e
      → IsLevel n (value.level n i side scale at r) (value_at i (side_of side) e (whole r))
  level-held side at r six from to e h =
      let covered = item-covered is in
      let limits = item-limits is in
      let made = reach-criterion is laws in
      let positive = scale-above is in
      let t = side_stress i.lamina i.dir (side_of side) e in
      let stress : HoldsComponents n (value.stress n (value.criterion n scale i) side at) (stress_numbers scale.q0 t) = held-on side in
      let reach : ReachStress n (value.stress n (value.criterion n scale i) side at) = reach-on side in
      between-level laws (item-strengths is) (times_factor (whole r) t)
      (loaded-held laws t.along r positive covered.greatest made.along from to reach.along stress.along)
      (loaded-held laws t.across r positive covered.greatest made.across from to reach.across stress.across)
      (loaded-held laws t.shear r positive covered.greatest made.shear from to reach.shear stress.shear)
    where
      held-on : (s : Side) → HoldsComponents n (value.stress n (value.criterion n scale i) s at) (stress_numbers scale.q0 (side_stress i.lamina i.dir (side_of s) e))
      held-on Plus = stress-held laws (item-covered is) (item-limits is).direction Plus six h
      held-on Minus = stress-held laws (item-covered is) (item-limits is).direction Minus six h

      reach-on : (s : Side) → ReachStress n (value.stress n (value.criterion n scale i) s at)
      reach-on Plus = reach-stress laws (reach-criterion is laws).reduced (reach-criterion is laws).plus six
      reach-on Minus = reach-stress laws (reach-criterion is laws).reduced (reach-criterion is laws).minus six
