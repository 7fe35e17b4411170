-- What comparisons that fail say of a panel in a number of half waves: where it is not seen to meet a factor, it buckles at
-- 201/200 of it at the latest, and where it is not seen to fail, not before 199/200.
use Rattle.std.proofs.Common.{◌≡◌, refl, ◌∙◌, ap, ℕ, ◌*◌, ◌^◌, ◌≤◌, false, ℤ, pos, ◌*ℤ◌, ◌≤ℤ◌, ◌<ℤ◌, true, List, arith}
use Rattle.std.specs.Prelude.{int_lt, unsigned_abs}
use Rattle.std.proofs.lemmas.Int.{ints, by_lt_z}
use Rattle.lam_fraction.specs.Fraction.{ℚ, whole, fraction, opposite, ◌+ℚ◌, ◌*ℚ◌, ◌≤ℚ◌, ◌<ℚ◌, ◌-ℚ◌}
use Rattle.lam_fraction.specs.numbers.Numbers.{Numbers, Lawful, unit, width}
use Rattle.lam_fraction.proofs.Expression.{int, ◌⊕◌, ◌⊖◌, ◌⊗◌, minus}
use Rattle.lam_fraction.proofs.Solver.{◌≐◌}
use Rattle.lam_fraction.proofs.Rationals.{solve, from₁, from₃, above, weaken, positive_number, at_most_over, fraction_times, ◌*ₙ◌, ◌*ₚ◌}
use Rattle.lam_fraction.proofs.FractionBounds.{whole_positive, fraction-times}
use Rattle.lam_fraction.proofs.FractionRing.{whole-product}
use Rattle.lam_fraction.proofs.WholeFractions.{inverse-whole}
use Rattle.lam_fraction.proofs.numbers.Machine.{product_small}
use Rattle.lam_stock.specs.declared.item.Item.{Item}
use Rattle.lam_stock.specs.declared.item.ItemNo.{ItemNo}
use Rattle.lam_stock.specs.declared.scale.Scale.{Scale}
use Rattle.lam_stock.proofs.ScaleFacts.{scale-within}
use Rattle.lam_lamina.specs.Held.{NarrowMatrix}
use Rattle.lam_job.specs.JobData.{PanelData}
use Rattle.lam_job.specs.Ranges.{IsPanel}
use Rattle.lam_job.specs.Near.{just_below, just_above}
use Rattle.lam_job.specs.Plate.{buckling_load, panel_load}
use Rattle.lam_wall.specs.declared.wall.Wall.{Wall}
use Rattle.lam_wall.specs.Assembled.{StandsFor}
use Rattle.lam_wall.proofs.CatalogueWalls.{wall-thick, wall-thin}
use Rattle.lam_wall.specs.Matrices.{Matrices}
use Rattle.lam_plate.specs.declared.plate.Plate.{Plate}
use Rattle.lam_plate.specs.declared.wave.Wave.{Wave}
use Rattle.lam_plate.specs.inside.Formulas as by
use Rattle.lam_plate.proofs.BendingEntries.{third, third_above, part, plane_form, plane-between, part-least, twist-above, twist-most}
use Rattle.lam_plate.proofs.BucklingForm.{common, common_above, form_at, load_by_form}
use Rattle.lam_plate.proofs.CrossProducts.{test-of_below}
use Rattle.lam_plate.proofs.PanelFacts as Facts
use Rattle.lam_plate.proofs.ShiftedUnits.{positive-product}
use Rattle.lam_plate.proofs.near.FormBounds.{four_times, form_at_least, form_at_most}
use Rattle.lam_plate.proofs.near.MissedTests.{Narrowly, not_met, not_failed}
use Rattle.lam_plate.proofs.near.ShareBounds.{shares_sum, shares_least, product_at_most}
use Rattle.lam_plate.proofs.near.ShiftSteps.{InPlate, SmallStep, Stepped, stepped, small-step}
use Rattle.lam_plate.proofs.near.WaveWidths.{narrowly, form-narrow, shares-narrow}

-- a test that fails
at_most-of_missed : (a b : ℤ) → int_lt a b ≡ false → b ≤ℤ a
at_most-of_missed a b e = by_lt_z a b (λ (h : a <ℤ b). let t : int_lt a b ≡ true = test-of_below a b h in absurd (cc)) (λ (h : b ≤ℤ a). h)

-- ---- from the form to the loads: b is the buckling load, l the panel's; f is num over den

loads-above : (b l t g k f num den : ℚ) → whole (pos 0) <ℚ t → whole (pos 0) <ℚ den → whole (pos 0) ≤ℚ k → b *ℚ t ≡ k *ℚ g → l ≡ k *ℚ f → f *ℚ den ≡ num
    → whole (pos 200) *ℚ (g *ℚ den) ≤ℚ whole (pos 201) *ℚ (num *ℚ t) → whole (pos 200) *ℚ b ≤ℚ whole (pos 201) *ℚ l
unfolding ◌-ℚ◌
loads-above b l t g k f num den t_above den_above k_least by_form by_units quotient h =
    at_most_over (t_above *ₚ den_above) (k_least *ₙ above h)
    (from₃ (opposite (whole (pos 200) *ℚ den)) by_form (whole (pos 201) *ℚ t *ℚ den) by_units (whole (pos 201) *ℚ t *ℚ k) quotient
    (solve 8 (λ b l t g k f num den. t ⊗ den ⊗ (int (pos 201) ⊗ l ⊖ int (pos 200) ⊗ b)
    ≐ k ⊗ (int (pos 201) ⊗ (num ⊗ t) ⊖ int (pos 200) ⊗ (g ⊗ den))
    ⊕ minus (int (pos 200) ⊗ den) ⊗ (b ⊗ t ⊖ k ⊗ g) ⊕ (int (pos 201) ⊗ t ⊗ den) ⊗ (l ⊖ k ⊗ f) ⊕ (int (pos 201) ⊗ t ⊗ k) ⊗ (f ⊗ den ⊖ num)) refl b l t g k f num den))

loads-below : (b l t g k f num den : ℚ) → whole (pos 0) <ℚ t → whole (pos 0) <ℚ den → whole (pos 0) ≤ℚ k → b *ℚ t ≡ k *ℚ g → l ≡ k *ℚ f → f *ℚ den ≡ num
    → whole (pos 199) *ℚ (num *ℚ t) ≤ℚ whole (pos 200) *ℚ (g *ℚ den) → whole (pos 199) *ℚ l ≤ℚ whole (pos 200) *ℚ b
unfolding ◌-ℚ◌
loads-below b l t g k f num den t_above den_above k_least by_form by_units quotient h =
    at_most_over (t_above *ₚ den_above) (k_least *ₙ above h)
    (from₃ (whole (pos 200) *ℚ den) by_form (opposite (whole (pos 199) *ℚ t *ℚ den)) by_units (opposite (whole (pos 199) *ℚ t *ℚ k)) quotient
    (solve 8 (λ b l t g k f num den. t ⊗ den ⊗ (int (pos 200) ⊗ b ⊖ int (pos 199) ⊗ l)
    ≐ k ⊗ (int (pos 200) ⊗ (g ⊗ den) ⊖ int (pos 199) ⊗ (num ⊗ t))
    ⊕ (int (pos 200) ⊗ den) ⊗ (b ⊗ t ⊖ k ⊗ g) ⊕ minus (int (pos 199) ⊗ t ⊗ den) ⊗ (l ⊖ k ⊗ f) ⊕ minus (int (pos 199) ⊗ t ⊗ k) ⊗ (f ⊗ den ⊖ num)) refl b l t g k f num den))

-- ---- to parts of a factor: w is a thousandth of the load

at_above : (b r w q : ℚ) → whole (pos 200) *ℚ q ≡ whole (pos 201) *ℚ r → whole (pos 200) *ℚ b ≤ℚ whole (pos 201) *ℚ (r *ℚ w) → b ≤ℚ q *ℚ w
unfolding ◌-ℚ◌
at_above b r w q e h =
    at_most_over (positive_number 199) (above h)
    (from₁ w e (solve 4 (λ b r w q. int (pos 200) ⊗ (q ⊗ w ⊖ b) ≐ (int (pos 201) ⊗ (r ⊗ w) ⊖ int (pos 200) ⊗ b) ⊕ w ⊗ (int (pos 200) ⊗ q ⊖ int (pos 201) ⊗ r)) refl b r w q))

at_below : (b r w q : ℚ) → whole (pos 200) *ℚ q ≡ whole (pos 199) *ℚ r → whole (pos 199) *ℚ (r *ℚ w) ≤ℚ whole (pos 200) *ℚ b → q *ℚ w ≤ℚ b
unfolding ◌-ℚ◌
at_below b r w q e h =
    at_most_over (positive_number 199) (above h)
    (from₁ (opposite w) e (solve 4 (λ b r w q. int (pos 200) ⊗ (b ⊖ q ⊗ w) ≐ (int (pos 200) ⊗ b ⊖ int (pos 199) ⊗ (r ⊗ w)) ⊕ minus w ⊗ (int (pos 200) ⊗ q ⊖ int (pos 199) ⊗ r)) refl b r w q))

pub above-load : (b : ℚ) (p : PanelData) (r : ℤ) → whole (pos 200) *ℚ b ≤ℚ whole (pos 201) *ℚ panel_load p (whole r) → b ≤ℚ panel_load p (just_above r)
above-load b p r = at_above b (whole r) (fraction p.load (pos 1000)) (just_above r) (fraction_times (pos 201 *ℤ r) (pos 200) (omega (arith, ints)) ∙ whole-product (pos 201) r)

pub below-load : (b : ℚ) (p : PanelData) (r : ℤ) → whole (pos 199) *ℚ panel_load p (whole r) ≤ℚ whole (pos 200) *ℚ b → panel_load p (just_below r) ≤ℚ b
below-load b p r = at_below b (whole r) (fraction p.load (pos 1000)) (just_below r) (fraction_times (pos 199 *ℤ r) (pos 200) (omega (arith, ints)) ∙ whole-product (pos 199) r)

-- ---- the numbers of a panel

load-enough : (p : PanelData) → IsPanel p → pos 10000 ≤ℤ by.load_units p
load-enough p h =
    let width : pos 1 ≤ℤ p.width = omega (arith, ints, h.width.least) in
    let load : pos 1 ≤ℤ p.load = omega (arith, ints, h.load.least) in
    let product = positive-product p.load (p.width *ℤ p.width) load (positive-product p.width p.width width width) in
    omega (arith, ints, product)

load-size : (p : PanelData) → IsPanel p → unsigned_abs (by.load_units p) ≤ 4494400000000000000000000
load-size p h =
    let width : unsigned_abs p.width ≤ 20000 = omega (arith, ints, h.width.least, h.width.greatest) in
    let load : unsigned_abs p.load ≤ 1000000000 = omega (arith, ints, h.load.least, h.load.greatest) in
    product_small (1000000000 * (20000 * 20000)) 11236000 (p.load *ℤ (p.width *ℤ p.width)) (pos 11236000)
    (product_small 1000000000 (20000 * 20000) p.load (p.width *ℤ p.width) load (product_small 20000 20000 p.width p.width width width)) (omega (arith, ints))

stiffness-enough : (q0 h : ℤ) → pos 1 ≤ℤ q0 → pos 1 ≤ℤ h → pos 1000 ≤ℤ by.stiffness_units q0 h
stiffness-enough q0 h some_q some_h =
    let product = positive-product (h *ℤ h) (h *ℤ q0) (positive-product h h some_h some_h) (positive-product h q0 some_h some_q) in
    omega (arith, ints, product)

stiffness-size : (q0 h : ℤ) → unsigned_abs q0 ≤ 2097152 → unsigned_abs h ≤ 1280000 → unsigned_abs (by.stiffness_units q0 h) ≤ 2 ^ 99
stiffness-size q0 h few_q few_h =
    let small = product_small 110889 ((1280000 * 1280000) * (1280000 * 2097152)) (pos 110889) ((h *ℤ h) *ℤ (h *ℤ q0)) (omega (arith, ints))
    (product_small (1280000 * 1280000) (1280000 * 2097152) (h *ℤ h) (h *ℤ q0) (product_small 1280000 1280000 h h few_h few_h) (product_small 1280000 2097152 h q0 few_h few_q)) in
    omega (arith, small)

module _ {A : Type 0} {n : Numbers A} (laws : Lawful n) (scaled : n.scale ≡ 60) {w : Wall A} {scale : Scale} {stock : List Item} {numbers : List ItemNo} (k : StandsFor n w scale stock numbers)
    (narrow : NarrowMatrix 512 n w.d) (p : PanelData) (panel : IsPanel p) where
  abbrev wall : List Item
  wall = Facts.wall laws k

  abbrev m : Matrices
  m = Facts.m laws k

  abbrev at : Plate A
  at = Facts.at laws k p panel

  abbrev stiffness : ℤ
  stiffness = by.stiffness_units scale.q0 w.h

  q0_least : pos 1 ≤ℤ scale.q0
  q0_least = let h = Facts.q0_above laws k in omega (arith, ints, h)

  q0_most : scale.q0 ≤ℤ pos 2097152
  q0_most = (scale-within stock stock scale k.plies.catalogue refl).1

  h_least : pos 1 ≤ℤ w.h
  h_least = let h = wall-thick k in omega (arith, ints, h)

  h_most : w.h ≤ℤ pos 1280000
  h_most = wall-thin k

  stiffness-least : pos 1000 ≤ℤ stiffness
  stiffness-least = stiffness-enough scale.q0 w.h q0_least h_least

  steps : (r : ℤ) → pos 1 ≤ℤ r → Stepped (pos (2 ^ at.shift)) (r *ℤ by.load_units p) stiffness
  steps r some =
      stepped (by.load_units p) stiffness r some (load-enough p panel) stiffness-least (load-size p panel)
      (stiffness-size scale.q0 w.h (omega (arith, ints, q0_least, q0_most)) (omega (arith, ints, h_least, h_most)))

  module _ (i : ℕ) (some : 1 ≤ i) (few : i ≤ 1903) where
    abbrev x : ℤ
    x = Facts.x laws k p panel i some few

    abbrev y : ℤ
    y = Facts.aa laws k p panel

    abbrev s : ℚ
    s = Facts.alongs laws k p panel i some few

    abbrev t : ℚ
    t = Facts.acrosses laws k p panel i some few

    abbrev g : ℚ
    g = form_at scale.q0 wall m (Facts.are laws k) p (Facts.long laws k p panel) (Facts.wide laws k p panel) i

    above-none : whole (pos 0) <ℚ s *ℚ t
    above-none = Facts.shares-above laws k p panel i some few

    one : s +ℚ t ≡ whole (pos 1)
    one =
        let a = Facts.aa_is laws k p panel in
        shares_sum x y (Facts.x_least laws k p panel i some few) (Facts.x_most laws k p panel i some few) a.least a.greatest

    four : whole (pos 4) *ℚ g ≡ plane_form m.d s t +ℚ whole (pos 4) *ℚ (m.d.ss *ℚ (s *ℚ t))
    four = four_times m.d.xx m.d.xy m.d.yy m.d.ss s t

    inside : InPlate g (s *ℚ t)
    inside =
        let a = Facts.aa_is laws k p panel in
        let three = inverse-whole (pos 3) (omega (arith, ints)) in
        let between = plane-between k.plies m (Facts.are laws k) s t in
        record {
          form_least = form_at_least g (plane_form m.d s t) m.d.ss (part k.plies m (Facts.are laws k)) third s t four three one (weaken above-none)
              between.0 (part-least k.plies m (Facts.are laws k)) third_above (twist-above k.plies m (Facts.are laws k));
          form_most = form_at_most g (plane_form m.d s t) m.d.ss (part k.plies m (Facts.are laws k)) third s t four three one (weaken above-none)
              between.1 (twist-most k.plies m (Facts.are laws k));
          shares_least = shares_least x y (Facts.x_least laws k p panel i some few) (Facts.x_most laws k p panel i some few) a.least a.greatest;
          shares_most = product_at_most s t one (weaken above-none);
          form_above = Facts.form-least laws k p panel i some few;
          shares_above = above-none;
        }

    abbrev wave : Wave A
    wave = by.in_waves n.calc at i

    narrow-wave : Narrowly g (s *ℚ t) (whole (pos (unit n))) (whole (pos (width n wave.form))) (whole (pos (width n wave.shares)))
    narrow-wave =
        let a = Facts.aa_is laws k p panel in
        let y_least : pos 1 ≤ℤ y = omega (arith, ints, a.least) in
        let y_most : y ≤ℤ pos 2000000000000000 = omega (arith, ints, a.greatest) in
        let x_least = Facts.x_least laws k p panel i some few in
        let x_most = Facts.x_most laws k p panel i some few in
        let holds = Facts.holds laws k in
        narrowly g (s *ℚ t) (unit n) (width n wave.form) (width n wave.shares) (ap (λ (j : ℕ). 2 ^ j) scaled) inside.form_least inside.shares_least
        (form-narrow laws holds.d k.reach.d narrow x y x_least x_most y_least y_most)
        (shares-narrow laws holds.d k.reach.d narrow x y x_least x_most y_least y_most)

    module _ (r : ℤ) (some_r : pos 1 ≤ℤ r) where
      r_least : pos 0 ≤ℤ r
      r_least = omega (arith, ints, some_r)

      num_least : pos 0 ≤ℤ (r *ℤ by.load_units p)
      num_least = Facts.num_least laws k p panel i some few r r_least

      den_above : pos 0 <ℤ stiffness
      den_above = Facts.den_above laws k p panel i some few r r_least

      small : SmallStep g (s *ℚ t) (whole (r *ℤ by.load_units p)) (whole stiffness) (whole (pos (2 ^ at.shift)))
      small = small-step g (s *ℚ t) (r *ℤ by.load_units p) stiffness (pos (2 ^ at.shift)) inside num_least (omega (arith, ints, den_above)) (omega (arith, ints)) (steps r some_r)

      pub not_met-load : by.meets n wave (by.load_at at r) at.stiffness ≡ false → buckling_load wall p i ≤ℚ panel_load p (just_above r)
      not_met-load e =
          above-load (buckling_load wall p i) p r
          (loads-above (buckling_load wall p i) (panel_load p (whole r)) (s *ℚ t) g (common scale.q0 wall m (Facts.are laws k) p (Facts.long laws k p panel) (Facts.wide laws k p panel))
          (fraction (r *ℤ by.load_units p) stiffness) (whole (r *ℤ by.load_units p)) (whole stiffness) above-none (whole_positive den_above)
          (weaken (common_above scale.q0 wall m (Facts.are laws k) p (Facts.long laws k p panel) (Facts.wide laws k p panel) (Facts.h_above laws k) (Facts.q0_above laws k)))
          (load_by_form scale.q0 wall m (Facts.are laws k) p (Facts.long laws k p panel) (Facts.wide laws k p panel) i some)
          (Facts.by_units laws k p panel i some few r r_least) (fraction-times (r *ℤ by.load_units p) stiffness den_above)
          (not_met laws (Facts.form-held laws k p panel i some few) (Facts.shares-held laws k p panel i some few) inside narrow-wave
          (r *ℤ by.load_units p) stiffness at.shift num_least (omega (arith, ints, den_above)) small (at_most-of_missed _ _ e)))

      pub not_failed-load : by.fails n wave (by.load_at at r) at.stiffness ≡ false → panel_load p (just_below r) ≤ℚ buckling_load wall p i
      not_failed-load e =
          below-load (buckling_load wall p i) p r
          (loads-below (buckling_load wall p i) (panel_load p (whole r)) (s *ℚ t) g (common scale.q0 wall m (Facts.are laws k) p (Facts.long laws k p panel) (Facts.wide laws k p panel))
          (fraction (r *ℤ by.load_units p) stiffness) (whole (r *ℤ by.load_units p)) (whole stiffness) above-none (whole_positive den_above)
          (weaken (common_above scale.q0 wall m (Facts.are laws k) p (Facts.long laws k p panel) (Facts.wide laws k p panel) (Facts.h_above laws k) (Facts.q0_above laws k)))
          (load_by_form scale.q0 wall m (Facts.are laws k) p (Facts.long laws k p panel) (Facts.wide laws k p panel) i some)
          (Facts.by_units laws k p panel i some few r r_least) (fraction-times (r *ℤ by.load_units p) stiffness den_above)
          (not_failed laws (Facts.form-held laws k p panel i some few) (Facts.shares-held laws k p panel i some few) inside narrow-wave
          (r *ℤ by.load_units p) stiffness at.shift num_least (omega (arith, ints, den_above)) small (at_most-of_missed _ _ e)))
