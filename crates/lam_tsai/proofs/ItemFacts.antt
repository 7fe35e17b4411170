-- What the limits of a catalogue and its scale say of an item.
use Rattle.std.proofs.Common.{refl, subst, All, ◌^◌, ℤ, pos, ◌+ℤ◌, ◌-ℤ◌, ◌*ℤ◌, ◌≤ℤ◌, ◌<ℤ◌, arith}
use Rattle.std.specs.Int.{int_max}
use Rattle.std.proofs.lemmas.Int.{ints, clamps}
use Rattle.std.proofs.lemmas.Option.{get_or_from_slice_get, slice_get_within}
use Rattle.lam_fraction.specs.numbers.Numbers.{Numbers, Lawful}
use Rattle.lam_fraction.proofs.Expression.{int, ◌⊕◌, ◌⊖◌, ◌⊗◌}
use Rattle.lam_fraction.proofs.Integers as Z
use Rattle.lam_fraction.proofs.Solver.{◌≐◌}
use Rattle.lam_stock.specs.Limits.{HasSlack, IsStrength, KeepsStrengths}
use Rattle.lam_stock.specs.Scale.{IsScaleOf}
use Rattle.lam_stock.specs.Stock.{WithinLimits}
use Rattle.lam_stock.specs.declared.item.Item.{Item}
use Rattle.lam_stock.specs.declared.scale.Scale.{Scale}
use Rattle.lam_stock.proofs.ScaleFacts.{scale-kept, scale-within}
use Rattle.lam_stock.proofs.StrengthBounds.{strengths_kept}
use Rattle.lam_lamina.specs.Covered.{IsCovered}
use Rattle.lam_lamina.proofs.Catalogue.{catalogue-covered, catalogue-underlies}
use Rattle.lam_lamina.proofs.Moduli.{Underlies}
use Rattle.lam_lamina.proofs.StiffnessKnown.{reach-reduced}
use Rattle.lam_tsai.specs.Listed.{IsItemOf}
use Rattle.lam_tsai.specs.inside.Reach.{Bears, ReachCriterion}
use Rattle.lam_tsai.specs.inside.Values as by
use Rattle.lam_tsai.specs.declared.place.Side.TheVariants.{Plus, Minus}
use Rattle.lam_tsai.proofs.Reaching.{reach-angle, reach-coefficients}

-- the floor is at most a quarter of the sum of both moduli
quarter : (a b floor : ℤ) → pos 0 <ℤ (a +ℤ b) → (floor *ℤ (a +ℤ b)) ≤ℤ (a *ℤ b) → (pos 4 *ℤ floor) ≤ℤ (a +ℤ b)
quarter a b floor positive h =
    Z.at_most_over {k = a +ℤ b} positive (Z.◌+ₙ◌ (Z.square (a -ℤ b)) (Z.◌*ₙ◌ (Z.number 4) (Z.above h)))
    (Z.solve 3 (λ a b f. (a ⊕ b) ⊗ ((a ⊕ b) ⊖ int (pos 4) ⊗ f) ≐ (a ⊖ b) ⊗ (a ⊖ b) ⊕ int (pos 4) ⊗ (a ⊗ b ⊖ f ⊗ (a ⊕ b))) refl a b floor)

module _ {scale : Scale} {i : Item} (is : IsItemOf scale i) where
  is_scale : IsScaleOf is.items scale
  is_scale = (scale-kept is.items is.items scale is.stock refl).0

  kept : (P : Item → Type 0) → All P is.items → P i
  kept P all = subst P (get_or_from_slice_get is.items is.place i i is.listed) (all is.place i (slice_get_within is.items is.place i is.listed))

  pub item-limits : WithinLimits i
  item-limits = kept WithinLimits is.stock.limits

  pub item-covered : IsCovered scale.q0 i.lamina
  item-covered = kept (λ x. IsCovered scale.q0 x.lamina) (catalogue-covered is.items scale is.stock.limits is_scale)

  underlies : Underlies scale.floor i.lamina
  underlies = kept (λ x. Underlies scale.floor x.lamina) (catalogue-underlies is.items scale is.stock.limits is_scale)

  pub item-strengths : KeepsStrengths i.lamina
  item-strengths = strengths_kept item-limits.limits

  pub scale-least : pos 0 ≤ℤ scale.q0
  scale-least = let least = (scale-within is.items is.items scale is.stock refl).0 in omega (arith, ints, least)

  pub scale-above : pos 0 <ℤ scale.q0
  scale-above = let least = (scale-within is.items is.items scale is.stock refl).0 in omega (arith, ints, least)

  room : (x : ℤ) → HasSlack i.lamina x → (scale.q0 *ℤ pos 20000) ≤ℤ (pos (2 ^ 25) *ℤ x)
  room x slack =
      let l = i.lamina in
      let moduli = item-limits.limits.range.moduli in
      let least : pos 0 <ℤ (l.e1 +ℤ l.e2) = omega (arith, ints, moduli.least_e1, moduli.least_e2) in
      let low : (pos 4 *ℤ scale.floor) ≤ℤ (l.e1 +ℤ l.e2) = quarter l.e1 l.e2 scale.floor least underlies.normal in
      let cap : (pos 2000 *ℤ (l.e1 +ℤ l.e2)) ≤ℤ (pos 16384 *ℤ x) = omega (arith, ints, clamps, slack.kept) in
      omega (arith, ints, low, cap, is.stock.spread)

  bears : {x : ℤ} → IsStrength x → HasSlack i.lamina x → Bears scale.q0 x
  bears {x} strength slack = record { strength = strength; room = room x slack }

  bears-greater : {x y : ℤ} → Bears scale.q0 x → Bears scale.q0 y → Bears scale.q0 (int_max x y)
  bears-greater h k = record {
    strength = record {
      least = omega (arith, ints, clamps, h.strength.least, k.strength.least);
      greatest = omega (arith, ints, clamps, h.strength.greatest, k.strength.greatest);
    };
    room = omega (arith, ints, clamps, h.room, k.room);
  }

  pub reach-criterion : {A : Type 0} {n : Numbers A} → Lawful n → ReachCriterion n (by.criterion n scale i)
  reach-criterion laws =
      let strengths = item-strengths.range in
      let slack = item-limits.limits.slack in
      record {
        reduced = reach-reduced laws item-covered;
        plus = reach-angle item-limits.direction laws Plus;
        minus = reach-angle item-limits.direction laws Minus;
        coefficients = reach-coefficients laws item-strengths;
        along = bears-greater (bears strengths.xt slack.xt) (bears strengths.xc slack.xc);
        across = bears-greater (bears strengths.yt slack.yt) (bears strengths.yc slack.yc);
        shear = bears strengths.s slack.s;
        least = scale-least;
        greatest = item-covered.greatest;
      }
