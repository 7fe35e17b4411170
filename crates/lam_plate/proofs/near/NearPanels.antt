-- A panel whose verdict at a factor straddles is near the factor, and one with a printed ratio buckles soon above it.
use Rattle.std.proofs.Common.{◌≡◌, refl, ◌∙◌, ap, subst, ℕ, ◌+◌, ◌<◌, ◌≤◌, inl, inr, ℤ, pos, ◌+ℤ◌, ◌*ℤ◌, ◌≤ℤ◌, List, arith}
use Rattle.std.proofs.lemmas.Int.{ints}
use Rattle.lam_fraction.specs.Fraction.{ℚ, whole, fraction, opposite, ◌+ℚ◌, ◌*ℚ◌, ◌≤ℚ◌, ◌<ℚ◌, ◌-ℚ◌}
use Rattle.lam_fraction.specs.numbers.Numbers.{Numbers, Lawful}
use Rattle.lam_fraction.proofs.Expression.{int, ◌⊕◌, ◌⊖◌, ◌⊗◌, minus}
use Rattle.lam_fraction.proofs.Solver.{◌≐◌}
use Rattle.lam_fraction.proofs.Rationals.{solve, from₂, strictly_above, weaken, number, positive_number, at_most, below_over, at_most_then_below, fraction_times, ◌+ₙ◌, ◌*ₙ◌, ◌*ₚ◌}
use Rattle.lam_fraction.proofs.FractionRing.{whole-product, whole-sum}
use Rattle.lam_fraction.proofs.WholeFractions.{whole_at_most, fraction_positive}
use Rattle.lam_number.specs.declared.strength.Verdict.TheVariants.{Meets, Fails, Straddles}
use Rattle.lam_stock.specs.declared.item.Item.{Item}
use Rattle.lam_stock.specs.declared.item.ItemNo.{ItemNo}
use Rattle.lam_stock.specs.declared.scale.Scale.{Scale}
use Rattle.lam_job.specs.JobData.{JobData, PanelData}
use Rattle.lam_job.specs.Near.{just_below, just_above, NearFactor}
use Rattle.lam_job.specs.Plate.{PanelAtLeast, buckling_load, panel_load}
use Rattle.lam_job.specs.Ranges.{IsPanel}
use Rattle.lam_job.specs.Schedule.{items_of, wall_of}
use Rattle.lam_wall.specs.declared.wall.Wall.{Wall}
use Rattle.lam_wall.specs.Assembled.{StandsFor}
use Rattle.lam_plate.specs.Panels.{BucklesBelow, StandsForFit}
use Rattle.lam_plate.specs.NearFactor.{IsFine}
use Rattle.lam_sharp.specs.NearOne.{past_ratio}
use Rattle.lam_plate.specs.declared.plate.Plate.{Plate}
use Rattle.lam_plate.specs.inside.Formulas as by
use Rattle.lam_plate.proofs.PanelFacts as Facts
use Rattle.lam_plate.proofs.PanelFacts.{wall-same}
use Rattle.lam_plate.proofs.PanelSteps.{one-not_met, each-not_failed}
use Rattle.lam_plate.proofs.PrintedFacts.{printed-next}
use Rattle.lam_plate.proofs.near.NearWaves.{below-load, not_met-load, not_failed-load}

-- what is below a load is below it by so many parts
parts_below : (l b : ℚ) → whole (pos 0) ≤ℚ l → l <ℚ b → whole (pos 199) *ℚ l ≤ℚ whole (pos 200) *ℚ b
unfolding ◌-ℚ◌
parts_below l b sign less = at_most (number 200 *ₙ weaken (strictly_above less) +ₙ sign) (solve 2 (λ l b. int (pos 200) ⊗ b ⊖ int (pos 199) ⊗ l ≐ int (pos 200) ⊗ (b ⊖ l) ⊕ l) refl l b)

-- 201/200 of the next ratio is below what is past a ratio
past_next : (r x y w : ℚ) → whole (pos 0) <ℚ w → whole (pos 200) *ℚ x ≡ whole (pos 201) *ℚ (r +ℚ whole (pos 1)) → whole (pos 200) *ℚ y ≡ whole (pos 201) *ℚ r +ℚ whole (pos 400) → x *ℚ w <ℚ y *ℚ w
unfolding ◌-ℚ◌
past_next r x y w positive e f =
    below_over (positive_number 199) (positive_number 198 *ₚ positive)
    (from₂ (opposite w) e w f
    (solve 4 (λ r x y w. int (pos 200) ⊗ (y ⊗ w ⊖ x ⊗ w) ≐ int (pos 199) ⊗ w ⊕ minus w ⊗ (int (pos 200) ⊗ x ⊖ int (pos 201) ⊗ (r ⊕ int (pos 1))) ⊕ w ⊗ (int (pos 200) ⊗ y ⊖ (int (pos 201) ⊗ r ⊕ int (pos 400)))) refl r x y w))

thousandth_above : (p : PanelData) → IsPanel p → whole (pos 0) <ℚ fraction p.load (pos 1000)
thousandth_above p panel = let l = panel.load.least in fraction_positive p.load (pos 1000) (omega (arith, ints, l)) (omega (arith, ints))

past-load : (p : PanelData) (r : ℕ) → IsPanel p → panel_load p (just_above (pos (r + 1))) <ℚ panel_load p (past_ratio (pos r))
past-load p r panel =
    past_next (whole (pos r)) (just_above (pos (r + 1))) (past_ratio (pos r)) (fraction p.load (pos 1000)) (thousandth_above p panel)
    (fraction_times (pos 201 *ℤ pos (r + 1)) (pos 200) (omega (arith, ints)) ∙ whole-product (pos 201) (pos (r + 1)) ∙ ap (λ z. whole (pos 201) *ℚ z) (next ∙ whole-sum (pos r) (pos 1)))
    (fraction_times (pos 201 *ℤ pos r +ℤ pos 400) (pos 200) (omega (arith, ints)) ∙ whole-sum (pos 201 *ℤ pos r) (pos 400) ∙ ap (λ z. z +ℚ whole (pos 400)) (whole-product (pos 201) (pos r)))
  where
    next : whole (pos (r + 1)) ≡ whole (pos r +ℤ pos 1)
    next = ap whole (let e : pos (r + 1) ≡ pos r +ℤ pos 1 = omega (arith, ints) in e)

module _ {A : Type 0} {n : Numbers A} (laws : Lawful n) {w : Wall A} (fine : IsFine n w) {scale : Scale} {stock : List Item} {numbers : List ItemNo} (k : StandsFor n w scale stock numbers)
    (p : PanelData) (panel : IsPanel p) where
  abbrev wall : List Item
  wall = items_of stock numbers

  abbrev at : Plate A
  at = by.plate n scale.q0 w p

  few-waves : (i : ℕ) → i ≤ at.waves → i ≤ 1903
  few-waves i few = let most = Facts.waves-few laws k p panel in omega (arith, few, most)

  -- some number of half waves is not seen to meet
  not-met : (r : ℤ) → pos 1 ≤ℤ r → ¬ (by.panel_verdict n scale.q0 w p r ≡ Meets) → (i : ℕ) × (1 ≤ i) × (buckling_load wall p i ≤ℚ panel_load p (just_above r))
  not-met r some h =
      let one = one-not_met n at (by.load_at at r) at.waves h in
      (one.0, one.1, not_met-load laws fine.scale k fine.narrow p panel one.0 one.1 (few-waves one.0 one.2) r some one.3)

  pub not-failed : (r : ℤ) → pos 1 ≤ℤ r → ¬ (by.panel_verdict n scale.q0 w p r ≡ Fails) → PanelAtLeast wall p (just_below r)
  not-failed r some h =
      Facts.every-least laws k p panel (panel_load p (just_below r)) (λ i some_i few. elim (each-not_failed n at (by.load_at at r) at.waves h i some_i few) [
        | inl met ↦ below-load (buckling_load wall p i) p r (parts_below (panel_load p (whole r)) (buckling_load wall p i) load-least (Facts.stands-at laws k p panel i some_i (few-waves i few) r r_least met))
        | inr missed ↦ not_failed-load laws fine.scale k fine.narrow p panel i some_i (few-waves i few) r some missed
      ])
    where
      r_least : pos 0 ≤ℤ r
      r_least = omega (arith, ints, some)

      load-least : whole (pos 0) ≤ℚ panel_load p (whole r)
      load-least = whole_at_most r_least *ₙ weaken (thousandth_above p panel)

  pub near : (r : ℤ) → pos 1 ≤ℤ r → by.panel_verdict n scale.q0 w p r ≡ Straddles → NearFactor wall p r
  near r some e = record {
    stands = not-failed r some (λ (f : by.panel_verdict n scale.q0 w p r ≡ Fails). absurd (cc));
    buckles = not-met r some (λ (f : by.panel_verdict n scale.q0 w p r ≡ Meets). absurd (cc));
  }

  pub past : by.printed_panel n scale.q0 w p < 20000 → BucklesBelow wall p (past_ratio (pos (by.printed_panel n scale.q0 w p)))
  past less =
      let r = by.printed_panel n scale.q0 w p in
      let one = not-met (pos (r + 1)) (omega (arith, ints)) (printed-next laws k p panel less) in
      (one.0, one.1, at_most_then_below one.2 (past-load p r panel))

-- ---- of the wall of a schedule

module _ {A : Type 0} {n : Numbers A} (laws : Lawful n) (stock : List Item) (job : JobData) (listed : List ItemNo) (scale : Scale) (w : Wall A) (p : PanelData) where
  pub straddles-near : (factor : ℤ) → StandsForFit n w scale stock job listed → IsFine n w → IsPanel p → pos 1 ≤ℤ factor → by.panel_verdict n scale.q0 w p factor ≡ Straddles → NearFactor (wall_of stock job listed) p factor
  straddles-near factor k fine panel some e = subst (λ wall. NearFactor wall p factor) (wall-same stock job listed) (near laws fine k.stands p panel factor some e)

  pub printed-past : StandsForFit n w scale stock job listed → IsFine n w → IsPanel p → by.printed_panel n scale.q0 w p < 20000
      → BucklesBelow (wall_of stock job listed) p (past_ratio (pos (by.printed_panel n scale.q0 w p)))
  printed-past k fine panel less = subst (λ wall. BucklesBelow wall p (past_ratio (pos (by.printed_panel n scale.q0 w p)))) (wall-same stock job listed) (past laws fine k.stands p panel less)
