-- Where a verdict on narrow strains straddles, and where it does not meet.
use Rattle.std.proofs.Common.{◌≡◌, refl, sym, ◌∙◌, ap, subst, subst₂, ℕ, ◌*◌, ◌^◌, ◌≤◌, Bool, true, false, ◌||◌, ◌⊎◌, inl, inr, ℤ, pos, negsuc, neg_ℤ, ◌+ℤ◌, ◌-ℤ◌, ◌*ℤ◌, ◌≤ℤ◌, ◌<ℤ◌, unsigned_abs, arith}
use Rattle.std.specs.Int.{int_min, int_max}
use Rattle.std.proofs.lemmas.Bool.{cases_lt}
use Rattle.std.proofs.lemmas.Int.{ints, clamps}
use Rattle.std.proofs.lemmas.Option.{get_or_from_slice_get, slice_get_within}
use Rattle.lam_fraction.specs.Fraction.{ℚ, whole, fraction, ◌+ℚ◌, ◌-ℚ◌, ◌*ℚ◌, ◌≤ℚ◌, ◌<ℚ◌}
use Rattle.lam_fraction.specs.numbers.Ends as ends
use Rattle.lam_fraction.specs.numbers.Numbers.{Numbers, Lawful, Holds, reach, unit, width}
use Rattle.lam_fraction.proofs.Expression.{int, ◌⊕◌, ◌⊖◌, ◌⊗◌}
use Rattle.lam_fraction.proofs.FractionBounds.{fraction-times, whole_positive}
use Rattle.lam_fraction.proofs.FractionPairs.{whole-le}
use Rattle.lam_fraction.proofs.Integers as Z
use Rattle.lam_fraction.proofs.Laws.{either}
use Rattle.lam_fraction.proofs.Rationals.{solve, from₁, from₂, from₃, above, strictly_above, weaken, at_most, at_most_over, below_over, below_then_at_most, reflexive, number, positive_number, ◌+ₙ◌, ◌*ₙ◌, ◌+ₚ◌, ◌*ₚ◌}
use Rattle.lam_fraction.proofs.Solver.{◌≐◌}
use Rattle.lam_fraction.proofs.WholeFractions.{whole_at_most, whole_below, fraction_positive, at_most_images, product_image}
use Rattle.lam_fraction.proofs.numbers.Steps.{one_unit}
use Rattle.lam_number.specs.declared.strength.FaceStrain.{FaceStrain}
use Rattle.lam_number.specs.declared.strength.Verdict.TheVariants.{Meets, Straddles}
use Rattle.lam_stock.specs.declared.item.Item.{Item}
use Rattle.lam_stock.specs.declared.item.Lamina.{Lamina}
use Rattle.lam_stock.specs.declared.scale.Scale.{Scale}
use Rattle.lam_stock.specs.Limits.{HasSlack, KeepsStrengths}
use Rattle.lam_stock.specs.Moduli.{stiffness_cap}
use Rattle.lam_stock.specs.PlyLaw.{OffAxis, OnAxis, side_stress}
use Rattle.lam_stock.specs.Scale.{IsScaleOf}
use Rattle.lam_stock.specs.TsaiWu.{times_factor}
use Rattle.lam_stock.proofs.ScaleFacts.{scale-kept}
use Rattle.lam_lamina.proofs.Catalogue.{catalogue-underlies}
use Rattle.lam_lamina.proofs.Moduli.{Underlies}
use Rattle.lam_sharp.specs.NearOne.{nearly_one, hardly_above_one}
use Rattle.lam_tsai.specs.declared.components.Components.{Components}
use Rattle.lam_tsai.specs.declared.loaded.Loaded.{Loaded}
use Rattle.lam_tsai.specs.declared.place.Level.TheVariants.{Far}
use Rattle.lam_tsai.specs.declared.place.Side.{Side}
use Rattle.lam_tsai.specs.declared.place.Side.TheVariants.{Plus, Minus}
use Rattle.lam_tsai.specs.FaceStrains.{IsWithinSix}
use Rattle.lam_tsai.specs.Levels.{IsLevel, side_of, value_at, verdict_of}
use Rattle.lam_tsai.specs.Listed.{IsItemOf}
use Rattle.lam_tsai.specs.inside.Reach.{ReachStress}
use Rattle.lam_tsai.specs.inside.Values as value
use Rattle.lam_tsai.proofs.ItemFacts.{item-covered, item-limits, item-strengths, reach-criterion, scale-above}
use Rattle.lam_tsai.proofs.LevelHeld.{level-held}
use Rattle.lam_tsai.proofs.LoadedHeld.{loaded-held}
use Rattle.lam_tsai.proofs.Ordered.{int_cases}
use Rattle.lam_tsai.proofs.Reaching.{reach-stress}
use Rattle.lam_tsai.proofs.ScaledValue.{unit_value, unit_positive}
use Rattle.lam_tsai.proofs.Stresses.{HoldsComponents, stress_numbers, stress-held}
use Rattle.lam_narrow.specs.Close.{AreApart, MovesBy, StressesMoveBy}
use Rattle.lam_narrow.specs.Straddling.{AreWithin, HoldsWithin, IsCompared, IsFinest, NotMetIsNearlyOne, StraddlesInBand, StraddlesNearOne, narrow_band, narrow_units, verdict_at}
use Rattle.lam_narrow.proofs.Banded as band
use Rattle.lam_narrow.proofs.Banded.{IsHalf, banded, v, v-far, v-holds}
use Rattle.lam_narrow.proofs.Settled.{fails-not, settled-not-met, settled-straddles, unit-is}
use Rattle.lam_narrow.proofs.ThinShares as share
use Rattle.lam_narrow.proofs.ThinShares.{IsShare, neither, rounded-is}
use Rattle.lam_narrow.proofs.ThinStrains.{thin-angle}
use Rattle.lam_narrow.proofs.ThinStresses.{ThinStress, cap-small, thin-moduli, thin-stress}

-- ---- a catalogue

-- the floor is at most a quarter of the sum of both moduli
quarter : (a b floor : ℤ) → pos 0 <ℤ (a +ℤ b) → (floor *ℤ (a +ℤ b)) ≤ℤ (a *ℤ b) → (pos 4 *ℤ floor) ≤ℤ (a +ℤ b)
quarter a b floor positive h =
    Z.at_most_over {k = a +ℤ b} positive (Z.◌+ₙ◌ (Z.square (a -ℤ b)) (Z.◌*ₙ◌ (Z.number 4) (Z.above h)))
    (Z.solve 3 (λ a b f. (a ⊕ b) ⊗ ((a ⊕ b) ⊖ int (pos 4) ⊗ f) ≐ (a ⊖ b) ⊗ (a ⊖ b) ⊕ int (pos 4) ⊗ (a ⊗ b ⊖ f ⊗ (a ⊕ b))) refl a b floor)

module _ {scale : Scale} {i : Item} (is : IsItemOf scale i) where
  underlies : Underlies scale.floor i.lamina
  underlies =
      let is_scale : IsScaleOf is.items scale = (scale-kept is.items is.items scale is.stock refl).0 in
      subst (λ x. Underlies scale.floor x.lamina) (get_or_from_slice_get is.items is.place i i is.listed)
      (catalogue-underlies is.items scale is.stock.limits is_scale is.place i (slice_get_within is.items is.place i is.listed))

  -- q0 and the greatest factor beside a strength
  room : (x : ℤ) → HasSlack i.lamina x → pos 0 ≤ℤ x → unsigned_abs scale.q0 * 20000 ≤ 2 ^ 25 * unsigned_abs x
  room x slack positive =
      let l = i.lamina in
      let moduli = (item-limits is).limits.range.moduli in
      let least : pos 0 <ℤ (l.e1 +ℤ l.e2) = omega (arith, ints, moduli.least_e1, moduli.least_e2) in
      let low : (pos 4 *ℤ scale.floor) ≤ℤ (l.e1 +ℤ l.e2) = quarter l.e1 l.e2 scale.floor least underlies.normal in
      let cap : (pos 2000 *ℤ (l.e1 +ℤ l.e2)) ≤ℤ (pos 16384 *ℤ x) = omega (arith, ints, clamps, slack.kept) in
      omega (arith, ints, low, cap, is.stock.spread, scale-above is, positive)

-- of the lesser strength of an axis
lesser : (P : ℤ → Type 0) (a b : ℤ) → P a → P b → P (int_min a b)
lesser P a b p q = elim (either a b) [
  | inl h ↦ (let least : int_min a b ≡ a = omega (arith, ints, clamps, h) in subst P (sym least) p)
  | inr h ↦ (let least : int_min a b ≡ b = omega (arith, ints, clamps, h) in subst P (sym least) q)
]

-- ---- what the strains are worth

worth-of : (f c m wide far s part u : ℚ) → whole (pos 0) ≤ℚ f → whole (pos 0) ≤ℚ c → whole (pos 0) ≤ℚ u → far *ℚ u ≡ wide → m ≤ℚ wide → whole (pos 27) *ℚ (f *ℚ c *ℚ far) ≤ℚ whole (pos 16) *ℚ (s *ℚ part)
    → whole (pos 27) *ℚ (f *ℚ (c *ℚ m)) ≤ℚ whole (pos 16) *ℚ (s *ℚ (part *ℚ u))
unfolding ◌-ℚ◌
worth-of f c m wide far s part u ff cc uu times few moves =
    at_most (uu *ₙ above moves +ₙ number 27 *ₙ (ff *ₙ cc *ₙ above few))
    (from₁ (whole (pos 27) *ℚ (f *ℚ c)) times
    (solve 8 (λ f c m w g s p u.
    int (pos 16) ⊗ (s ⊗ (p ⊗ u)) ⊖ int (pos 27) ⊗ (f ⊗ (c ⊗ m))
    ≐ (u ⊗ (int (pos 16) ⊗ (s ⊗ p) ⊖ int (pos 27) ⊗ (f ⊗ c ⊗ g)) ⊕ int (pos 27) ⊗ (f ⊗ c ⊗ (w ⊖ m))) ⊕ (int (pos 27) ⊗ (f ⊗ c)) ⊗ (g ⊗ u ⊖ w)) refl f c m wide far s part u))

slim-of : (b s part u : ℚ) → b ≤ℚ whole (pos 16) *ℚ (s *ℚ (part *ℚ u)) → whole (pos 4096) *ℚ part ≤ℚ whole (pos 1) → whole (pos 0) ≤ℚ s → whole (pos 0) ≤ℚ u → whole (pos 256) *ℚ b ≤ℚ s *ℚ u
unfolding ◌-ℚ◌
slim-of b s part u worth most ss uu = at_most (number 256 *ₙ above worth +ₙ above most *ₙ (ss *ₙ uu))
    (solve 4 (λ b s p u. s ⊗ u ⊖ int (pos 256) ⊗ b ≐ int (pos 256) ⊗ (int (pos 16) ⊗ (s ⊗ (p ⊗ u)) ⊖ b) ⊕ (int (pos 1) ⊖ int (pos 4096) ⊗ p) ⊗ (s ⊗ u)) refl b s part u)

part-of : (s part b : ℚ) → whole (pos 0) <ℚ s → whole (pos 0) ≤ℚ b → whole (pos 27) *ℚ b ≤ℚ whole (pos 16) *ℚ (s *ℚ part) → whole (pos 0) ≤ℚ part
unfolding ◌-ℚ◌
part-of s part b ss bb most = at_most_over {k = whole (pos 16) *ℚ s} (positive_number 15 *ₚ ss) (above most +ₙ number 27 *ₙ bb)
    (solve 3 (λ s p b. (int (pos 16) ⊗ s) ⊗ (p ⊖ int (pos 0)) ≐ (int (pos 16) ⊗ (s ⊗ p) ⊖ int (pos 27) ⊗ b) ⊕ int (pos 27) ⊗ b) refl s part b)

ends-most : (low high : ℤ) → ends.width low high ≤ 2 * ends.reach low high
unfolding ends.width ends.reach
ends-most low high = omega (arith, ints)

-- a width that is so small in two ways
record IsThinAt {A : Type 0} (wide : ℕ) (n : Numbers A) (at : FaceStrain A) : Type 0 where
  m : ℕ
  narrow : AreWithin m n at
  few : m ≤ 12 * unit n
  least : m ≤ wide

thin-at : {A : Type 0} {n : Numbers A} {wide : ℕ} {at : FaceStrain A} → IsWithinSix n at → AreWithin wide n at → IsThinAt wide n at
thin-at {n = n} {wide} {at} six narrow = elim (cases_lt (12 * unit n) wide) [
  | inl more ↦ record { m = 12 * unit n; narrow = record { x = omega (arith, six.x, ends-most (n.low at.ex) (n.high at.ex)); y = omega (arith, six.y, ends-most (n.low at.ey) (n.high at.ey)); s = omega (arith, six.s, ends-most (n.low at.g) (n.high at.g)) }; few = omega arith; least = omega (arith, more) }
  | inr most ↦ record { m = wide; narrow = narrow; few = most; least = omega arith }
]

-- ---- a verdict

module _ {A : Type 0} {n : Numbers A} (laws : Lawful n) (finest : IsFinest n) {i : Item} {scale : Scale} {at : FaceStrain A} {e : OffAxis} {wide : ℕ} (holds : HoldsWithin wide n i scale at e)
    {factor : ℤ} (compared : IsCompared factor) {part : ℚ} (moves : StressesMoveBy i.lamina (whole factor) (fraction (pos wide) (pos (2 ^ 60))) part) (most : part ≤ℚ fraction (pos 1) (pos 4096)) where
  abbrev l : Lamina
  l = i.lamina

  is : IsItemOf scale i
  is = holds.listed

  thin : IsThinAt wide n at
  thin = thin-at holds.six holds.narrow

  strengths : KeepsStrengths l
  strengths = item-strengths is

  abbrev cap : ℕ
  cap = unsigned_abs (stiffness_cap l)

  abbrev q0 : ℤ
  q0 = scale.q0

  abbrev u : ℚ
  u = whole (pos (unit n))

  uu : whole (pos 0) ≤ℚ u
  uu = number (unit n)

  abbrev f : ℕ
  f = unsigned_abs factor

  f-is : pos f ≡ factor
  f-is = omega (arith, ints, compared.least)

  cap-is : pos cap ≡ stiffness_cap l
  cap-is = omega (arith, ints, clamps, (item-limits is).limits.range.moduli.least_g12)

  abbrev far : ℚ
  far = fraction (pos wide) (pos (2 ^ 60))

  far-times : far *ℚ u ≡ whole (pos wide)
  far-times = ap (λ k. far *ℚ whole (pos k)) (unit-is laws finest) ∙ fraction-times (pos wide) (pos (2 ^ 60)) (omega (arith, ints))

  far-least : whole (pos 0) ≤ℚ far
  unfolding ◌-ℚ◌
  far-least = at_most_over {k = whole (pos (2 ^ 60))} (positive_number 1152921504606846975) (number wide)
      (from₁ (whole (pos 1)) (fraction-times (pos wide) (pos (2 ^ 60)) (omega (arith, ints))) (solve 3 (λ g u w. u ⊗ (g ⊖ int (pos 0)) ≐ w ⊕ int (pos 1) ⊗ (g ⊗ u ⊖ w)) refl far (whole (pos (2 ^ 60))) (whole (pos wide))))

  part-least : whole (pos 0) ≤ℚ part
  part-least = part-of (whole l.xt) part (whole factor *ℚ whole (stiffness_cap l) *ℚ far) (whole_positive (omega (arith, ints, strengths.range.xt.least)))
      ((whole_at_most compared.least *ₙ whole_at_most (omega (arith, ints, clamps, (item-limits is).limits.range.moduli.least_g12))) *ₙ far-least) moves.xt

  -- what the strains are worth beside a strength
  abbrev Worth : ℕ → Type 0
  Worth s = whole (pos 27) *ℚ (whole (pos f) *ℚ (whole (pos cap) *ℚ whole (pos thin.m))) ≤ℚ whole (pos 16) *ℚ (whole (pos s) *ℚ (part *ℚ u))

  worth : (x : ℤ) → pos 0 ≤ℤ x → MovesBy l (whole factor) far part x → Worth (unsigned_abs x)
  worth x positive moved =
      let x_is : pos (unsigned_abs x) ≡ x = omega (arith, ints, positive) in
      worth-of (whole (pos f)) (whole (pos cap)) (whole (pos thin.m)) (whole (pos wide)) far (whole (pos (unsigned_abs x))) part u (number f) (number cap) uu far-times (whole_at_most (omega (arith, ints, thin.least)))
      (subst (λ z. whole (pos 27) *ℚ (whole z *ℚ whole (pos cap) *ℚ far) ≤ℚ whole (pos 16) *ℚ (whole (pos (unsigned_abs x)) *ℚ part)) (sym f-is)
      (subst (λ z. whole (pos 27) *ℚ (whole factor *ℚ whole z *ℚ far) ≤ℚ whole (pos 16) *ℚ (whole (pos (unsigned_abs x)) *ℚ part)) (sym cap-is)
      (subst (λ z. whole (pos 27) *ℚ (whole factor *ℚ whole (stiffness_cap l) *ℚ far) ≤ℚ whole (pos 16) *ℚ (whole z *ℚ part)) (sym x_is) moved)))

  slim : (s : ℕ) → Worth s → 256 * (27 * (f * (cap * thin.m))) ≤ s * unit n
  slim s h =
      let small = slim-of _ (whole (pos s)) part u h (band.part-4096 part most) (number s) uu in
      let all = pos 27 *ℤ (pos f *ℤ (pos cap *ℤ pos thin.m)) in
      let image : whole (pos 256 *ℤ all) ≡ whole (pos 256) *ℚ (whole (pos 27) *ℚ (whole (pos f) *ℚ (whole (pos cap) *ℚ whole (pos thin.m)))) =
      product_image (pos 256) all refl (product_image (pos 27) (pos f *ℤ (pos cap *ℤ pos thin.m)) refl (product_image (pos f) (pos cap *ℤ pos thin.m) refl (product_image (pos cap) (pos thin.m) refl refl))) in
      let order = (whole-le (pos 256 *ℤ all) (pos s *ℤ pos (unit n))).0 (subst₂ (λ a b. a ≤ℚ b) (sym image) (sym (product_image (pos s) (pos (unit n)) refl refl)) small) in
      omega (arith, ints, order)

  half : (h : ℚ) × IsHalf h part
  half = (band.half-of part, record { twice = band.half-twice part; least = part-least; most = most })

  module _ (side : Side) where
    abbrev t : Components A
    t = value.stress n (value.criterion n scale i) side at

    stress-thin : ThinStress laws finest.slop thin.m cap (unsigned_abs q0) t
    stress-thin = go side
      where
        go : (s : Side) → ThinStress laws finest.slop thin.m cap (unsigned_abs q0) (value.stress n (value.criterion n scale i) s at)
        go Plus = thin-stress laws finest.slop (thin-moduli laws finest.slop (item-covered is)) (cap-small laws finest.slop (item-covered is)) (thin-angle laws finest.slop (item-limits is).direction Plus) holds.six thin.narrow thin.few
        go Minus = thin-stress laws finest.slop (thin-moduli laws finest.slop (item-covered is)) (cap-small laws finest.slop (item-covered is)) (thin-angle laws finest.slop (item-limits is).direction Minus) holds.six thin.narrow thin.few

    stress-far : ReachStress n t
    stress-far = go side
      where
        go : (s : Side) → ReachStress n (value.stress n (value.criterion n scale i) s at)
        go Plus = reach-stress laws (reach-criterion is laws).reduced (reach-criterion is laws).plus holds.six
        go Minus = reach-stress laws (reach-criterion is laws).reduced (reach-criterion is laws).minus holds.six

    abbrev stress : OnAxis
    stress = side_stress i.lamina i.dir (side_of side) e

    stress-holds : HoldsComponents n t (stress_numbers q0 stress)
    stress-holds = go side
      where
        go : (s : Side) → HoldsComponents n (value.stress n (value.criterion n scale i) s at) (stress_numbers q0 (side_stress i.lamina i.dir (side_of s) e))
        go Plus = stress-held laws (item-covered is) (item-limits is).direction Plus holds.six holds.holds
        go Minus = stress-held laws (item-covered is) (item-limits is).direction Minus holds.six holds.holds

    xs : IsShare n t.along q0 (int_max l.xt l.xc) factor (unsigned_abs (int_min l.xt l.xc)) cap thin.m
    xs =
        let r = strengths.range in
        let k = (item-limits is).limits.slack in
        let positive : pos 0 ≤ℤ int_min l.xt l.xc = omega (arith, ints, clamps, r.xt.least, r.xc.least) in
        record {
          scale = scale-above is;
          greatest = (item-covered is).greatest;
          bears = (reach-criterion is laws).along;
          from = compared.least;
          to = compared.greatest;
          some = omega (arith, ints, clamps, r.xt.least, r.xc.least);
          least = omega (arith, ints, clamps, r.xt.least, r.xc.least);
          sixteen = omega (arith, ints, clamps, r.xt.least, r.xc.least, strengths.ratio.along.first, strengths.ratio.along.second);
          room = room is (int_min l.xt l.xc) (lesser (HasSlack l) l.xt l.xc k.xt k.xc) positive;
          far = stress-far.along;
          wide = stress-thin.along;
          slim = slim (unsigned_abs (int_min l.xt l.xc)) (worth (int_min l.xt l.xc) positive (lesser (MovesBy l (whole factor) far part) l.xt l.xc moves.xt moves.xc));
        }

    ys : IsShare n t.across q0 (int_max l.yt l.yc) factor (unsigned_abs (int_min l.yt l.yc)) cap thin.m
    ys =
        let r = strengths.range in
        let k = (item-limits is).limits.slack in
        let positive : pos 0 ≤ℤ int_min l.yt l.yc = omega (arith, ints, clamps, r.yt.least, r.yc.least) in
        record {
          scale = scale-above is;
          greatest = (item-covered is).greatest;
          bears = (reach-criterion is laws).across;
          from = compared.least;
          to = compared.greatest;
          some = omega (arith, ints, clamps, r.yt.least, r.yc.least);
          least = omega (arith, ints, clamps, r.yt.least, r.yc.least);
          sixteen = omega (arith, ints, clamps, r.yt.least, r.yc.least, strengths.ratio.across.first, strengths.ratio.across.second);
          room = room is (int_min l.yt l.yc) (lesser (HasSlack l) l.yt l.yc k.yt k.yc) positive;
          far = stress-far.across;
          wide = stress-thin.across;
          slim = slim (unsigned_abs (int_min l.yt l.yc)) (worth (int_min l.yt l.yc) positive (lesser (MovesBy l (whole factor) far part) l.yt l.yc moves.yt moves.yc));
        }

    ss : IsShare n t.shear q0 l.s factor (unsigned_abs l.s) cap thin.m
    ss =
        let r = strengths.range in
        let positive : pos 0 ≤ℤ l.s = omega (arith, ints, r.s.least) in
        record {
          scale = scale-above is;
          greatest = (item-covered is).greatest;
          bears = (reach-criterion is laws).shear;
          from = compared.least;
          to = compared.greatest;
          some = omega (arith, ints, r.s.least);
          least = omega arith;
          sixteen = omega arith;
          room = room is l.s (item-limits is).limits.slack.s positive;
          far = stress-far.shear;
          wide = stress-thin.shear;
          slim = slim (unsigned_abs l.s) (worth l.s positive moves.s);
        }

    -- ---- the level

    abbrev X : Loaded A
    X = share.loaded laws finest.slop finest.scale xs

    abbrev Y : Loaded A
    Y = share.loaded laws finest.slop finest.scale ys

    abbrev S : Loaded A
    S = share.loaded laws finest.slop finest.scale ss

    abbrev nears : Bool → Bool → Bool → Type 0
    nears x y z = (x ≡ false) × ((y ≡ false) × (z ≡ false))

    abbrev beyonds : Type 0
    beyonds = nears (value.beyond n X) (value.beyond n Y) (value.beyond n S)

    abbrev settled : beyonds → A
    settled near = v laws finest strengths xs ys ss near.0 near.1.0 near.1.1

    level-is : (value.level n i side scale at factor ≡ Far) ⊎ ((near : beyonds) × (value.level n i side scale at factor ≡ value.settled n (settled near)))
    level-is = go (value.beyond n X || (value.beyond n Y || value.beyond n S)) refl
      where
        go : (b : Bool) → (value.beyond n X || (value.beyond n Y || value.beyond n S)) ≡ b → (value.level n i side scale at factor ≡ Far) ⊎ ((near : beyonds) × (value.level n i side scale at factor ≡ value.settled n (settled near)))
        go true e = inl (rw e refl)
        go false e =
            let first = neither (value.beyond n X) (value.beyond n Y || value.beyond n S) e in
            let second = neither (value.beyond n Y) (value.beyond n S) first.1 in
            inr ((first.0, (second.0, second.1)), rw e (rw (rounded-is laws finest.slop finest.scale xs first.0, rounded-is laws finest.slop finest.scale ys second.0, rounded-is laws finest.slop finest.scale ss second.1) refl))

    abbrev value-here : ℚ
    value-here = value_at i (side_of side) e (whole factor)

    settled-holds : (near : beyonds) → Holds n (settled near) (unit_value *ℚ (value-here -ℚ whole (pos 1)))
    settled-holds near =
        let made = reach-criterion is laws in
        let positive = scale-above is in
        let greatest = (item-covered is).greatest in
        v-holds laws finest strengths xs ys ss near.0 near.1.0 near.1.1 (times_factor (whole factor) stress)
        (loaded-held laws stress.along factor positive greatest made.along compared.least compared.greatest stress-far.along stress-holds.along)
        (loaded-held laws stress.across factor positive greatest made.across compared.least compared.greatest stress-far.across stress-holds.across)
        (loaded-held laws stress.shear factor positive greatest made.shear compared.least compared.greatest stress-far.shear stress-holds.shear)

    settled-far : (near : beyonds) → reach n (settled near) ≤ 6 * unit n
    settled-far near = v-far laws finest strengths xs ys ss near.0 near.1.0 near.1.1

    within : (near : beyonds) → neg_ℤ (pos 16777216) ≤ℤ n.high (settled near) → n.low (settled near) ≤ℤ pos 16777220 → AreApart (narrow_band part) value-here (whole (pos 1))
    within near high low = banded laws finest strengths xs ys ss near.0 near.1.0 near.1.1 high low half.1
        (worth (int_min l.xt l.xc) (omega (arith, ints, clamps, strengths.range.xt.least, strengths.range.xc.least)) (lesser (MovesBy l (whole factor) far part) l.xt l.xc moves.xt moves.xc))
        (worth (int_min l.yt l.yc) (omega (arith, ints, clamps, strengths.range.yt.least, strengths.range.yc.least)) (lesser (MovesBy l (whole factor) far part) l.yt l.yc moves.yt moves.yc))
        (worth l.s (omega (arith, ints, strengths.range.s.least)) moves.s)
        value-here (settled-holds near)

    -- it straddles only within the band
    pub straddles-band : verdict_at n i side scale at factor ≡ Straddles → AreApart (narrow_band part) value-here (whole (pos 1))
    straddles-band straddles = elim level-is [
      | inl far ↦ absurd (fails-not (subst (λ level. verdict_of n level ≡ Straddles) far straddles))
      | inr near ↦ (
          let ends = settled-straddles laws finest (settled near.0) (settled-far near.0) (subst (λ level. verdict_of n level ≡ Straddles) near.1 straddles) in
          within near.0 ends.0 ends.1)
    ]

    band-least : whole (pos 0) ≤ℚ narrow_band part
    band-least = number 19 *ₙ part-least +ₙ weaken (fraction_positive (pos 1) (pos 1000000) (omega (arith, ints)) (omega (arith, ints)))

    -- a value above 1 is not below the band
    above-one : (f b : ℚ) → whole (pos 1) <ℚ f → whole (pos 0) ≤ℚ b → whole (pos 1) -ℚ f ≤ℚ b
    unfolding ◌-ℚ◌
    above-one f b more least = at_most (weaken (strictly_above more) +ₙ least) (solve 2 (λ f b. b ⊖ (int (pos 1) ⊖ f) ≐ (f ⊖ int (pos 1)) ⊕ b) refl f b)

    held-above : (f v u low : ℚ) → whole (pos 0) <ℚ v → whole (pos 0) <ℚ u → whole (pos 0) <ℚ low → low ≤ℚ (v *ℚ (f -ℚ whole (pos 1))) *ℚ u → whole (pos 1) <ℚ f
    unfolding ◌-ℚ◌
    held-above f v u low vv uu positive from = below_over {k = v *ℚ u} (vv *ₚ uu) (positive +ₚ above from)
        (solve 4 (λ f v u l. (v ⊗ u) ⊗ (f ⊖ int (pos 1)) ≐ l ⊕ ((v ⊗ (f ⊖ int (pos 1))) ⊗ u ⊖ l)) refl f v u low)

    -- and where it does not meet, the value is not below the band
    pub not-met-band : ¬ (verdict_at n i side scale at factor ≡ Meets) → whole (pos 1) -ℚ value-here ≤ℚ narrow_band part
    not-met-band not = elim level-is [
      | inl far ↦ (
          let beyond : whole (pos 2) <ℚ value-here = subst (λ level. IsLevel n level value-here) far (level-held laws is side at factor holds.six compared.least compared.greatest e holds.holds) in
          above-one value-here (narrow_band part) (below_then_at_most (whole_below {m = pos 1} {n = pos 2} (omega (arith, ints))) (weaken beyond)) band-least)
      | inr near ↦ (
          let high = settled-not-met laws finest (settled near.0) (settled-far near.0) (subst (λ level. ¬ (verdict_of n level ≡ Meets)) near.1 not) in
          int_cases (n.low (settled near.0)) (pos 16777220)
          (λ low. (within near.0 high low).to)
          (λ more. above-one value-here (narrow_band part)
          (held-above value-here unit_value u (whole (n.low (settled near.0))) unit_positive (whole_positive (omega (arith, ints, one_unit laws))) (whole_positive (omega (arith, ints, more))) (settled-holds near.0).encloses.from) band-least))
    ]

-- ---- at the width of any loaded wall's strains

abbrev sure_part : ℚ
sure_part = fraction (pos 1) (pos 4096)

sure-moves : (f c x far part : ℚ) → whole (pos 0) ≤ℚ f → f ≤ℚ whole (pos 20000) → whole (pos 0) ≤ℚ c → whole (pos 0) ≤ℚ x → whole (pos 1000) *ℚ c ≤ℚ whole (pos 16384) *ℚ x
    → far *ℚ whole (pos 1152921504606846976) ≡ whole (pos 436207616) → part *ℚ whole (pos 4096) ≡ whole (pos 1) → whole (pos 27) *ℚ (f *ℚ c *ℚ far) ≤ℚ whole (pos 16) *ℚ (x *ℚ part)
unfolding ◌-ℚ◌
sure-moves f c x far part ff few cc xx slack width sure =
    at_most_over {k = whole (pos 4722366482869645213696)} (positive_number 4722366482869645213695)
    (number 48241072668672 *ₙ (above few *ₙ cc +ₙ number 20 *ₙ above slack) +ₙ number 2639109381639110656 *ₙ xx)
    (from₂ (whole (negsuc 110591) *ℚ (f *ℚ c)) width (whole (pos 18446744073709551616) *ℚ x) sure
    (solve 5 (λ f c x g p.
    int (pos 4722366482869645213696) ⊗ (int (pos 16) ⊗ (x ⊗ p) ⊖ int (pos 27) ⊗ (f ⊗ c ⊗ g))
    ≐ (int (pos 48241072668672) ⊗ ((int (pos 20000) ⊖ f) ⊗ c ⊕ int (pos 20) ⊗ (int (pos 16384) ⊗ x ⊖ int (pos 1000) ⊗ c)) ⊕ int (pos 2639109381639110656) ⊗ x)
    ⊕ (int (negsuc 110591) ⊗ (f ⊗ c)) ⊗ (g ⊗ int (pos 1152921504606846976) ⊖ int (pos 436207616)) ⊕ (int (pos 18446744073709551616) ⊗ x) ⊗ (p ⊗ int (pos 4096) ⊖ int (pos 1))) refl f c x far part))

within-from : (f p m k : ℚ) → p *ℚ whole (pos 4096) ≡ whole (pos 1) → m *ℚ whole (pos 1000000) ≡ whole (pos 1) → k *ℚ whole (pos 201) ≡ whole (pos 200) → whole (pos 1) -ℚ f ≤ℚ whole (pos 19) *ℚ p +ℚ m → k ≤ℚ f
unfolding ◌-ℚ◌
within-from f p m k pp mm kk most =
    at_most_over {k = whole (pos 823296000000)} (positive_number 823295999999) (number 823296000000 *ₙ above most +ₙ number 276176704)
    (from₃ (whole (negsuc 3818999999)) pp (whole (negsuc 823295)) mm (whole (negsuc 4095999999)) kk
    (solve 4 (λ f p m k.
    int (pos 823296000000) ⊗ (f ⊖ k)
    ≐ (int (pos 823296000000) ⊗ ((int (pos 19) ⊗ p ⊕ m) ⊖ (int (pos 1) ⊖ f)) ⊕ int (pos 276176704))
    ⊕ int (negsuc 3818999999) ⊗ (p ⊗ int (pos 4096) ⊖ int (pos 1)) ⊕ int (negsuc 823295) ⊗ (m ⊗ int (pos 1000000) ⊖ int (pos 1)) ⊕ int (negsuc 4095999999) ⊗ (k ⊗ int (pos 201) ⊖ int (pos 200))) refl f p m k))

within-to : (f p m k : ℚ) → p *ℚ whole (pos 4096) ≡ whole (pos 1) → m *ℚ whole (pos 1000000) ≡ whole (pos 1) → k *ℚ whole (pos 199) ≡ whole (pos 200) → f -ℚ whole (pos 1) ≤ℚ whole (pos 19) *ℚ p +ℚ m → f ≤ℚ k
unfolding ◌-ℚ◌
within-to f p m k pp mm kk most =
    at_most_over {k = whole (pos 815104000000)} (positive_number 815103999999) (number 815104000000 *ₙ above most +ₙ number 314184896)
    (from₃ (whole (negsuc 3780999999)) pp (whole (negsuc 815103)) mm (whole (pos 4096000000)) kk
    (solve 4 (λ f p m k.
    int (pos 815104000000) ⊗ (k ⊖ f)
    ≐ (int (pos 815104000000) ⊗ ((int (pos 19) ⊗ p ⊕ m) ⊖ (f ⊖ int (pos 1))) ⊕ int (pos 314184896))
    ⊕ int (negsuc 3780999999) ⊗ (p ⊗ int (pos 4096) ⊖ int (pos 1)) ⊕ int (negsuc 815103) ⊗ (m ⊗ int (pos 1000000) ⊖ int (pos 1)) ⊕ int (pos 4096000000) ⊗ (k ⊗ int (pos 199) ⊖ int (pos 200))) refl f p m k))

sure-times : sure_part *ℚ whole (pos 4096) ≡ whole (pos 1)
sure-times = fraction-times (pos 1) (pos 4096) (omega (arith, ints))

millionth-times : fraction (pos 1) (pos 1000000) *ℚ whole (pos 1000000) ≡ whole (pos 1)
millionth-times = fraction-times (pos 1) (pos 1000000) (omega (arith, ints))

module _ {A : Type 0} {n : Numbers A} {i : Item} {scale : Scale} {at : FaceStrain A} {e : OffAxis} (holds : HoldsWithin narrow_units n i scale at e) {factor : ℤ} (compared : IsCompared factor) where
  sure-move : (x : ℤ) → HasSlack i.lamina x → pos 0 ≤ℤ x → MovesBy i.lamina (whole factor) (fraction (pos narrow_units) (pos (2 ^ 60))) sure_part x
  sure-move x slack positive =
      let cap = stiffness_cap i.lamina in
      let least : pos 0 ≤ℤ cap = omega (arith, ints, clamps, (item-limits holds.listed).limits.range.moduli.least_g12) in
      sure-moves (whole factor) (whole cap) (whole x) (fraction (pos narrow_units) (pos (2 ^ 60))) sure_part (whole_at_most compared.least) (whole_at_most compared.greatest) (whole_at_most least) (whole_at_most positive)
      (at_most_images {m = pos 1000 *ℤ cap} {n = pos 16384 *ℤ x} slack.kept (product_image (pos 1000) cap refl refl) (product_image (pos 16384) x refl refl))
      (fraction-times (pos narrow_units) (pos (2 ^ 60)) (omega (arith, ints))) sure-times

  sure-all : StressesMoveBy i.lamina (whole factor) (fraction (pos narrow_units) (pos (2 ^ 60))) sure_part
  sure-all =
      let k = (item-limits holds.listed).limits.slack in
      let r = (item-strengths holds.listed).range in
      record {
        xt = sure-move i.lamina.xt k.xt (omega (arith, ints, r.xt.least));
        xc = sure-move i.lamina.xc k.xc (omega (arith, ints, r.xc.least));
        yt = sure-move i.lamina.yt k.yt (omega (arith, ints, r.yt.least));
        yc = sure-move i.lamina.yc k.yc (omega (arith, ints, r.yc.least));
        s = sure-move i.lamina.s k.s (omega (arith, ints, r.s.least));
      }

-- ---- the laws

pub straddles_in_band : {A : Type 0} {n : Numbers A} → Lawful n → StraddlesInBand n
straddles_in_band laws i side scale at e factor wide part finest holds compared moves most straddles = straddles-band laws finest holds compared moves most side straddles

pub straddles_near_one : {A : Type 0} {n : Numbers A} → Lawful n → StraddlesNearOne n
straddles_near_one laws i side scale at e factor finest holds compared straddles =
    let near = straddles-band laws finest holds compared (sure-all holds compared) (reflexive sure_part) side straddles in
    record {
      from = within-from (value_at i (side_of side) e (whole factor)) sure_part (fraction (pos 1) (pos 1000000)) nearly_one sure-times millionth-times (fraction-times (pos 200) (pos 201) (omega (arith, ints))) near.to;
      to = within-to (value_at i (side_of side) e (whole factor)) sure_part (fraction (pos 1) (pos 1000000)) hardly_above_one sure-times millionth-times (fraction-times (pos 200) (pos 199) (omega (arith, ints))) near.from;
    }

pub not_met_is_nearly_one : {A : Type 0} {n : Numbers A} → Lawful n → NotMetIsNearlyOne n
not_met_is_nearly_one laws i side scale at e factor finest holds compared not =
    within-from (value_at i (side_of side) e (whole factor)) sure_part (fraction (pos 1) (pos 1000000)) nearly_one sure-times millionth-times (fraction-times (pos 200) (pos 201) (omega (arith, ints)))
    (not-met-band laws finest holds compared (sure-all holds compared) (reflexive sure_part) side not)
