-- What the verdict of a panel says of its buckling, whatever the number of half waves.
use Rattle.std.proofs.Common.{◌≡◌, refl, sym, ◌∙◌, ap, subst, subst₂, ℕ, ◌+◌, ◌-◌, ◌*◌, ◌≤◌, ◌⊎◌, inl, inr, Bool, true, false, ℤ, pos, ◌+ℤ◌, ◌-ℤ◌, ◌*ℤ◌, ◌≤ℤ◌, ◌<ℤ◌, List, ◌++◌, arith}
use Rattle.std.specs.Prelude.{unsigned_abs, int_le, if◌then◌else◌}
use Rattle.std.specs.Int.{int_min, int_max}
use Rattle.std.proofs.lemmas.Int.{ints, clamps, by_lt_z}
use Rattle.std.proofs.lemmas.Bool.{cases_lt}
use Rattle.lam_fraction.specs.Fraction.{ℚ, whole, fraction, inverse, ◌+ℚ◌, ◌*ℚ◌, ◌/ℚ◌, ◌≤ℚ◌, ◌<ℚ◌, ◌-ℚ◌}
use borrow.Author.Differences.{le-false, below_in}
use Rattle.lam_fraction.specs.inside.WholeNumbers.{product_positive}
use Rattle.lam_fraction.specs.numbers.Numbers.{Numbers, Lawful, Holds, unit, reach}
use Rattle.lam_fraction.specs.numbers.Rounding.{floor_over}
use Rattle.lam_fraction.specs.inside.Reaches.{Reaches, sixteenths}
use Rattle.lam_fraction.proofs.Expression.{int, ◌⊕◌, ◌⊖◌, ◌⊗◌}
use Rattle.lam_fraction.proofs.Solver.{◌≐◌}
use Rattle.lam_fraction.proofs.Integers as Z
use Rattle.lam_fraction.proofs.Rationals.{solve, from₁, from₂, above, number, weaken, at_most_over, transitive, below_then_at_most, without_factor_below, with_factor, positive_number, ◌+ₙ◌, ◌*ₙ◌}
use Rattle.lam_fraction.proofs.FractionBounds.{whole_positive, with_factor_below}
use Rattle.lam_fraction.proofs.FractionRing.{whole-product}
use Rattle.lam_fraction.proofs.WholeFractions.{fraction_positive, whole_at_most, inverse-whole}
use Rattle.lam_fraction.proofs.numbers.Held.{Held, held, holding}
use Rattle.lam_fraction.proofs.numbers.Machine.{product_small}
use Rattle.lam_fraction.proofs.numbers.Rounded.{floor-near}
use Rattle.lam_number.specs.declared.strength.Verdict.TheVariants.{Meets, Fails}
use Rattle.lam_stock.specs.declared.item.Item.{Item}
use Rattle.lam_stock.specs.declared.item.ItemNo.{ItemNo}
use Rattle.lam_stock.specs.declared.scale.Scale.{Scale}
use Rattle.lam_lamina.specs.declared.stiffness.Sym3.{Sym3}
use Rattle.lam_job.specs.JobData.{JobData, PanelData}
use Rattle.lam_job.specs.Ranges.{IsPanel, IsFrom}
use Rattle.lam_job.specs.Plate.{stiffness_11, stiffness_22, buckling_load, panel_load}
use Rattle.lam_job.specs.Schedule.{items_of, wall_of}
use Rattle.lam_job.specs.Wall.{wall_thickness}
use Rattle.lam_wall.specs.declared.wall.Wall.{Wall}
use Rattle.lam_wall.specs.Matrices.{Matrices}
use Rattle.lam_wall.specs.MatrixLaw.{AreMatrices}
use Rattle.lam_wall.specs.Assembled.{HoldsWall, StandsFor}
use Rattle.lam_wall.proofs.CatalogueWalls.{plies-thick, scale-above}
use Rattle.lam_wall.proofs.UnitStrains.{bending_unit, bending_11, bending_22}
use Rattle.lam_plate.specs.declared.plate.Plate.{Plate}
use Rattle.lam_plate.specs.Panels.{StandsAbove, BucklesBelow, wall_numbers}
use Rattle.lam_plate.specs.inside.Formulas as by
use Rattle.lam_plate.proofs.BendingEntries.{plane-above, twist-above, along-above, across-times}
use Rattle.lam_plate.proofs.BucklingForm.{along_part, across_part, form_at, common, load_by_form, parts_above, common_above, stiffness_above, load_by_units}
use Rattle.lam_plate.proofs.CrossProducts.{below-of_test, at_most-of_test, test-of_at_most, load-below, load-above, shares-high, power-above}
use Rattle.lam_plate.proofs.FirstFrom.{first-decides, first-between}
use Rattle.lam_plate.proofs.PanelSteps.{each-meets, one-fails, wave-meets, wave-fails}
use Rattle.lam_plate.proofs.RisingLoad.{Rises, rises-last}
use Rattle.lam_plate.proofs.RisingLoad as Rising
use Rattle.lam_plate.proofs.Shares.{share-room, share-reach}
use Rattle.lam_plate.proofs.ShiftedUnits.{product-not_negative, positive-product, shifted-least, side-square, load-least}

-- an enclosure whose ends are at most 2
small-reach : {A : Type 0} (n : Numbers A) (z : A) → reach n z ≤ 2 * unit n → Reaches n (sixteenths 32) z
small-reach n z h = record { far = omega (arith, h) }

-- the form at two shares that are not negative, by a quarter, a half and a quarter of entries
form-above : (d e f n s t : ℚ) → whole (pos 0) ≤ℚ d *ℚ (s *ℚ s) +ℚ whole (pos 2) *ℚ e *ℚ (s *ℚ t) +ℚ f *ℚ (t *ℚ t) → whole (pos 0) ≤ℚ n → whole (pos 0) ≤ℚ s *ℚ t
    → whole (pos 0) ≤ℚ d /ℚ whole (pos 4) *ℚ (s *ℚ s) +ℚ (e /ℚ whole (pos 2) +ℚ n) *ℚ (s *ℚ t) +ℚ f /ℚ whole (pos 4) *ℚ (t *ℚ t)
unfolding ◌-ℚ◌ ◌/ℚ◌
form-above d e f n s t plane twist shares =
    at_most_over (positive_number 3) (plane +ₙ number 4 *ₙ (twist *ₙ shares))
    (from₂ (d *ℚ (s *ℚ s) +ℚ f *ℚ (t *ℚ t)) (inverse-whole (pos 4) (omega (arith, ints))) (whole (pos 2) *ℚ e *ℚ (s *ℚ t)) (inverse-whole (pos 2) (omega (arith, ints)))
    (solve 8 (λ d e f n s t i j. int (pos 4) ⊗ ((d ⊗ i ⊗ (s ⊗ s) ⊕ (e ⊗ j ⊕ n) ⊗ (s ⊗ t) ⊕ f ⊗ i ⊗ (t ⊗ t)) ⊖ int (pos 0))
    ≐ (d ⊗ (s ⊗ s) ⊕ int (pos 2) ⊗ e ⊗ (s ⊗ t) ⊕ f ⊗ (t ⊗ t)) ⊕ int (pos 4) ⊗ (n ⊗ (s ⊗ t))
    ⊕ (d ⊗ (s ⊗ s) ⊕ f ⊗ (t ⊗ t)) ⊗ (int (pos 4) ⊗ i ⊖ int (pos 1)) ⊕ (int (pos 2) ⊗ e ⊗ (s ⊗ t)) ⊗ (int (pos 2) ⊗ j ⊖ int (pos 1))) refl
    d e f n s t (inverse (whole (pos 4))) (inverse (whole (pos 2)))))

-- a share of the load on each side
left-side : (k q t : ℚ) → k *ℚ (q *ℚ t) ≡ t *ℚ (k *ℚ q)
unfolding ◌-ℚ◌
left-side = solve 3 (λ k q t. k ⊗ (q ⊗ t) ≐ t ⊗ (k ⊗ q)) refl

turned : (b t : ℚ) → b *ℚ t ≡ t *ℚ b
unfolding ◌-ℚ◌
turned = solve 2 (λ b t. b ⊗ t ≐ t ⊗ b) refl

compared : (l b t q g k : ℚ) → whole (pos 0) <ℚ t → whole (pos 0) <ℚ k → b *ℚ t ≡ k *ℚ g → l ≡ k *ℚ q → q *ℚ t <ℚ g → l <ℚ b
compared l b t q g k t_above k_above by_form by_units less =
    without_factor_below t t_above (subst₂ ◌<ℚ◌ (left-side k q t ∙ ap (λ x. t *ℚ x) (sym by_units)) (sym by_form ∙ turned b t) (with_factor_below k k_above less))

compared-above : (l b t q g k : ℚ) → whole (pos 0) <ℚ t → whole (pos 0) <ℚ k → b *ℚ t ≡ k *ℚ g → l ≡ k *ℚ q → g <ℚ q *ℚ t → b <ℚ l
compared-above l b t q g k t_above k_above by_form by_units less =
    without_factor_below t t_above (subst₂ ◌<ℚ◌ (sym by_form ∙ turned b t) (left-side k q t ∙ ap (λ x. t *ℚ x) (sym by_units)) (with_factor_below k k_above less))

-- a form that is not negative leaves a load that is not
not-negative : (b t g k : ℚ) → whole (pos 0) <ℚ t → whole (pos 0) ≤ℚ k → whole (pos 0) ≤ℚ g → b *ℚ t ≡ k *ℚ g → whole (pos 0) ≤ℚ b
unfolding ◌-ℚ◌
not-negative b t g k t_above k_least g_least e =
    at_most_over t_above (k_least *ₙ g_least) (from₁ (whole (pos 1)) e (solve 4 (λ b t g k. t ⊗ (b ⊖ int (pos 0)) ≐ k ⊗ g ⊕ int (pos 1) ⊗ (b ⊗ t ⊖ k ⊗ g)) refl b t g k))

middle-first : (u t x : ℚ) → u *ℚ (t *ℚ x) ≡ t *ℚ (u *ℚ x)
unfolding ◌-ℚ◌
middle-first = solve 3 (λ u t x. u ⊗ (t ⊗ x) ≐ t ⊗ (u ⊗ x)) refl

-- ---- how many times D11 is D22

-- by the ends: either the greatest number, or the high end is at most so many times the low one
times-by_ends : (low high f : ℤ) → pos 0 <ℤ low → high <ℤ (f *ℤ low +ℤ low) → ((int_min (int_max f (pos 0)) (pos 511) +ℤ pos 1) ≡ pos 512) ⊎ (high ≤ℤ ((int_min (int_max f (pos 0)) (pos 511) +ℤ pos 1) *ℤ low))
times-by_ends low high f low_above near = by_lt_z (pos 510) f (λ (h : pos 510 <ℤ f). inl (omega (arith, ints, clamps, h))) (λ (h : f ≤ℤ pos 510).
    let times = int_min (int_max f (pos 0)) (pos 511) +ℤ pos 1 in
    let more : pos 0 ≤ℤ (times -ℤ (f +ℤ pos 1)) = omega (arith, ints, clamps, h) in
    let product : pos 0 ≤ℤ ((times -ℤ (f +ℤ pos 1)) *ℤ low) = product-not_negative (times -ℤ (f +ℤ pos 1)) low more (Z.weaken low_above) in
    let e : (times -ℤ (f +ℤ pos 1)) *ℤ low ≡ times *ℤ low -ℤ (f *ℤ low +ℤ low) = Z.solve 3 (λ t f l. (t ⊖ (f ⊕ int (pos 1))) ⊗ l ≐ t ⊗ l ⊖ (f ⊗ l ⊕ l)) refl times f low in
    inr (omega (arith, ints, near, product, e)))

times-held : (x y u times : ℚ) (low high k : ℤ) → whole (pos 0) <ℚ u → whole low ≤ℚ x *ℚ u → y *ℚ u ≤ℚ whole high → pos 0 ≤ℤ k → whole k ≡ times → high ≤ℤ (k *ℤ low) → y ≤ℚ times *ℚ x
unfolding ◌-ℚ◌
times-held x y u times low high k u_above from to k_least e h =
    subst (λ z. y ≤ℚ z *ℚ x) e
    (at_most_over u_above ((whole_at_most k_least *ₙ above from) +ₙ above (subst (λ z. whole high ≤ℚ z) (whole-product k low) (whole_at_most h)) +ₙ above to)
    (solve 6 (λ x y u k l h. u ⊗ (k ⊗ x ⊖ y) ≐ k ⊗ (x ⊗ u ⊖ l) ⊕ (k ⊗ l ⊖ h) ⊕ (h ⊖ y ⊗ u)) refl x y u (whole k) (whole low) (whole high)))

times-range : (f : ℤ) → (pos 1 ≤ℤ (int_min (int_max f (pos 0)) (pos 511) +ℤ pos 1)) × ((int_min (int_max f (pos 0)) (pos 511) +ℤ pos 1) ≤ℤ pos 512)
times-range f = (omega (arith, ints, clamps), omega (arith, ints, clamps))

module _ {A : Type 0} {n : Numbers A} (laws : Lawful n) {w : Wall A} {scale : Scale} {stock : List Item} {numbers : List ItemNo} (k : StandsFor n w scale stock numbers) where
  abbrev pub wall : List Item
  wall = items_of stock numbers

  abbrev pub m : Matrices
  m = k.matrices.0

  pub are : AreMatrices scale.q0 wall m
  are = k.matrices.1

  pub holds : HoldsWall n w m
  holds = k.matrices.2

  abbrev times : ℤ
  times = by.most_times n w.d

  -- by the test of the low end
  abbrev by_low : Bool → ℤ
  by_low t = if t then pos 512 else (int_min (int_max (floor_over (n.high w.d.yy) (unsigned_abs (n.low w.d.xx))) (pos 0)) (pos 511) +ℤ pos 1)

  times-facts : (t : Bool) → int_le (n.low w.d.xx) (pos 0) ≡ t → (pos 1 ≤ℤ by_low t) × (by_low t ≤ℤ pos 512) × (m.d.yy ≤ℚ whole (by_low t) *ℚ m.d.xx)
  times-facts true e = (omega (arith, ints), omega (arith, ints), across-times k.plies m are)
  times-facts false e =
      let low = n.low w.d.xx in
      let high = n.high w.d.yy in
      let low_above : pos 0 <ℤ low = below_in (pos 0) low (le-false low (pos 0) e) in
      let size : pos (unsigned_abs low) ≡ low = omega (arith, ints, low_above) in
      let f = floor_over high (unsigned_abs low) in
      let near : high <ℤ (f *ℤ low +ℤ low) = subst (λ z. high <ℤ (f *ℤ z +ℤ z)) size (floor-near high (unsigned_abs low) (omega (arith, ints, low_above))) in
      let range = times-range f in
      let unit_above : whole (pos 0) <ℚ whole (pos (unit n)) = whole_positive (power-above n.scale) in (
        range.0,
        range.1,
        elim (times-by_ends low high f low_above near) [
          | inl greatest ↦ subst (λ (z : ℤ). m.d.yy ≤ℚ whole z *ℚ m.d.xx) (sym greatest) (across-times k.plies m are)
          | inr enough ↦ times-held m.d.xx m.d.yy (whole (pos (unit n))) (whole (by_low false)) low high (by_low false) unit_above holds.d.xx.encloses.from holds.d.yy.encloses.to (let r = range.0 in omega (arith, ints, r)) refl enough
        ],
      )

  pub times-least : pos 1 ≤ℤ times
  times-least = (times-facts (int_le (n.low w.d.xx) (pos 0)) refl).0

  pub times-most : times ≤ℤ pos 512
  times-most = (times-facts (int_le (n.low w.d.xx) (pos 0)) refl).1

  entries : m.d.yy ≤ℚ whole times *ℚ m.d.xx
  entries = (times-facts (int_le (n.low w.d.xx) (pos 0)) refl).2

  pub q0_above : pos 0 <ℤ scale.q0
  q0_above = scale-above k.plies.catalogue numbers

  pub h_above : pos 0 <ℤ wall_thickness wall
  h_above = plies-thick k.plies

  unit_least : whole (pos 0) ≤ℚ bending_unit scale.q0 wall m are
  unit_least =
      let h = wall_thickness wall in
      weaken (fraction_positive (h *ℤ (h *ℤ (h *ℤ scale.q0))) (pos 4) (product_positive h (h *ℤ (h *ℤ scale.q0)) h_above (product_positive h (h *ℤ scale.q0) h_above (product_positive h scale.q0 h_above q0_above))) (omega (arith, ints)))

  stiff : whole (pos 0) ≤ℚ stiffness_11 wall
  stiff = subst (λ z. whole (pos 0) ≤ℚ z) (sym (bending_11 scale.q0 wall m are)) (unit_least *ₙ along-above k.plies m are)

  most : stiffness_22 wall ≤ℚ whole times *ℚ stiffness_11 wall
  most = subst₂ (λ x y. x ≤ℚ whole times *ℚ y) (sym (bending_22 scale.q0 wall m are)) (sym (bending_11 scale.q0 wall m are))
      (subst (λ z. bending_unit scale.q0 wall m are *ℚ m.d.yy ≤ℚ z) (middle-first (bending_unit scale.q0 wall m are) (whole times) m.d.xx) (with_factor (bending_unit scale.q0 wall m are) unit_least entries))

  module _ (p : PanelData) (panel : IsPanel p) where
    abbrev pub at : Plate A
    at = by.plate n scale.q0 w p

    abbrev pub aa : ℤ
    aa = p.length *ℤ p.length

    abbrev pub bb : ℤ
    bb = p.width *ℤ p.width

    pub long : pos 0 <ℤ p.length
    long = let l = panel.length.least in omega (arith, ints, l)

    pub wide : pos 0 <ℤ p.width
    wide = let l = panel.width.least in omega (arith, ints, l)

    pub aa_is : IsFrom (pos 2500) (pos 400000000) aa
    aa_is = side-square p.length panel.length

    pub bb_is : IsFrom (pos 2500) (pos 400000000) bb
    bb_is = side-square p.width panel.width

    -- ---- the number of half waves that decides

    pub rises : Rises times aa bb at.waves
    rises =
        let last : Rises times aa bb 1903 = rises-last times aa bb times-least times-most (let a = aa_is.least in omega (arith, ints, a)) aa_is.greatest bb_is.least in
        at_most-of_test _ _ (first-decides (by.rises_from times aa bb) 1902 1 1903 refl (test-of_at_most _ _ last))

    module _ (i : ℕ) (some : 1 ≤ i) (few : i ≤ 1903) where
      abbrev pub x : ℤ
      x = (pos i *ℤ pos i) *ℤ bb

      pub x_least : pos 1 ≤ℤ x
      x_least = positive-product (pos i *ℤ pos i) bb (positive-product (pos i) (pos i) (omega (arith, ints, some)) (omega (arith, ints, some))) (let b = bb_is.least in omega (arith, ints, b))

      pub x_most : x ≤ℤ pos 2000000000000000
      x_most =
          let small : unsigned_abs x ≤ (1903 * 1903) * 400000000 = product_small (1903 * 1903) 400000000 (pos i *ℤ pos i) bb (product_small 1903 1903 (pos i) (pos i) (omega (arith, ints, few)) (omega (arith, ints, few))) (let l = bb_is.least in let g = bb_is.greatest in omega (arith, ints, l, g)) in
          omega (arith, ints, small)

      y_least : pos 1 ≤ℤ aa
      y_least = let a = aa_is.least in omega (arith, ints, a)

      y_most : aa ≤ℤ pos 2000000000000000
      y_most = let a = aa_is.greatest in omega (arith, ints, a)

      abbrev d : Sym3 (Held laws)
      d = record {
        xx = holding (small-reach n w.d.xx k.reach.d.xx) holds.d.xx;
        xy = holding (small-reach n w.d.xy k.reach.d.xy) holds.d.xy;
        yy = holding (small-reach n w.d.yy k.reach.d.yy) holds.d.yy;
        xs = holding (small-reach n w.d.xs k.reach.d.xs) holds.d.xs;
        ys = holding (small-reach n w.d.ys k.reach.d.ys) holds.d.ys;
        ss = holding (small-reach n w.d.ss k.reach.d.ss) holds.d.ss;
      }

      abbrev s : Held laws
      s = holding (share-reach laws x aa x_least x_most y_least y_most) (laws.ratio x (x +ℤ aa) (share-room x aa x_least x_most y_least y_most)).held

      abbrev t : Held laws
      t = holding (share-reach laws aa x y_least y_most x_least x_most) (laws.ratio aa (aa +ℤ x) (share-room aa x y_least y_most x_least x_most)).held

      abbrev pub alongs : ℚ
      alongs = along_part scale.q0 wall m are p long wide i

      abbrev pub acrosses : ℚ
      acrosses = across_part scale.q0 wall m are p long wide i

      pub shares-held : Holds n (by.in_waves n.calc at i).shares (alongs *ℚ acrosses)
      shares-held = ((held laws).product s t).holds refl

      pub form-held : Holds n (by.in_waves n.calc at i).form (form_at scale.q0 wall m are p long wide i)
      form-held = (by.form (held laws) (by.bending (held laws) d) s t ((held laws).product s t)).holds refl

      pub shares-above : whole (pos 0) <ℚ alongs *ℚ acrosses
      shares-above = parts_above scale.q0 wall m are p long wide i some

      pub form-least : whole (pos 0) ≤ℚ form_at scale.q0 wall m are p long wide i
      form-least = form-above m.d.xx m.d.xy m.d.yy m.d.ss alongs acrosses (plane-above k.plies m are alongs acrosses) (twist-above k.plies m are) (weaken shares-above)

      pub high-above : pos 0 <ℤ n.high (by.in_waves n.calc at i).shares
      high-above = shares-high n form-held shares-held form-least shares-above

      pub unloaded : whole (pos 0) ≤ℚ buckling_load wall p i
      unloaded =
          not-negative (buckling_load wall p i) (alongs *ℚ acrosses) (form_at scale.q0 wall m are p long wide i) (common scale.q0 wall m are p long wide)
          shares-above (weaken (common_above scale.q0 wall m are p long wide h_above q0_above)) form-least (load_by_form scale.q0 wall m are p long wide i some)

      -- ---- the comparisons

      abbrev pub load : ℤ
      load = by.load_units p

      abbrev stiffness : ℤ
      stiffness = by.stiffness_units scale.q0 (wall_thickness wall)

      stiffness_same : by.stiffness_units scale.q0 w.h ≡ stiffness
      stiffness_same = ap (by.stiffness_units scale.q0) k.thickness

      module _ (r : ℤ) (r_least : pos 0 ≤ℤ r) where
        pub num_least : pos 0 ≤ℤ (r *ℤ load)
        num_least = product-not_negative r load r_least (load-least p panel)

        pub den_above : pos 0 <ℤ by.stiffness_units scale.q0 w.h
        den_above = subst (λ z. pos 0 <ℤ z) (sym stiffness_same) (stiffness_above scale.q0 wall m are p long wide h_above q0_above)

        pub by_units : panel_load p (whole r) ≡ common scale.q0 wall m are p long wide *ℚ fraction (r *ℤ load) (by.stiffness_units scale.q0 w.h)
        by_units = load_by_units scale.q0 wall m are p long wide h_above q0_above r
            ∙ ap (λ (z : ℤ). common scale.q0 wall m are p long wide *ℚ fraction (r *ℤ load) z) (sym stiffness_same)

        pub stands-at : by.meets n (by.in_waves n.calc at i) (by.load_at at r) at.stiffness ≡ true → panel_load p (whole r) <ℚ buckling_load wall p i
        stands-at e =
            compared (panel_load p (whole r)) (buckling_load wall p i) (alongs *ℚ acrosses) (fraction (r *ℤ load) (by.stiffness_units scale.q0 w.h)) (form_at scale.q0 wall m are p long wide i) (common scale.q0 wall m are p long wide)
            shares-above (common_above scale.q0 wall m are p long wide h_above q0_above) (load_by_form scale.q0 wall m are p long wide i some) by_units
            (load-below n form-held shares-held form-least shares-above (r *ℤ load) (by.stiffness_units scale.q0 w.h) at.shift num_least den_above
            (shifted-least (r *ℤ load) at.shift num_least) (shifted-least (by.stiffness_units scale.q0 w.h) at.shift (Z.weaken den_above)) (below-of_test _ _ e))

        pub buckles-at : by.fails n (by.in_waves n.calc at i) (by.load_at at r) at.stiffness ≡ true → buckling_load wall p i <ℚ panel_load p (whole r)
        buckles-at e =
            compared-above (panel_load p (whole r)) (buckling_load wall p i) (alongs *ℚ acrosses) (fraction (r *ℤ load) (by.stiffness_units scale.q0 w.h)) (form_at scale.q0 wall m are p long wide i) (common scale.q0 wall m are p long wide)
            shares-above (common_above scale.q0 wall m are p long wide h_above q0_above) (load_by_form scale.q0 wall m are p long wide i some) by_units
            (load-above n form-held shares-held form-least shares-above (r *ℤ load) (by.stiffness_units scale.q0 w.h) at.shift num_least den_above
            (shifted-least (r *ℤ load) at.shift num_least) (shifted-least (by.stiffness_units scale.q0 w.h) at.shift (Z.weaken den_above)) (below-of_test _ _ e))

    -- ---- whatever the number of half waves

    pub waves-some : 1 ≤ at.waves
    waves-some = (first-between (by.rises_from times aa bb) 1902 1).0

    pub waves-few : at.waves ≤ 1903
    waves-few = (first-between (by.rises_from times aa bb) 1902 1).1

    -- what is below all loads up to the number that decides is below all
    every : (l : ℚ) → ((i : ℕ) → 1 ≤ i → i ≤ at.waves → l <ℚ buckling_load wall p i) → (i : ℕ) → 1 ≤ i → l <ℚ buckling_load wall p i
    every l each i some = elim (cases_lt at.waves i) [
      | inl more ↦ (
          let rest : at.waves + (i - at.waves) ≡ i = omega (arith, more) in
          subst (λ j. l <ℚ buckling_load wall p j) rest
          (below_then_at_most (each at.waves waves-some (omega arith)) (Rising.load-least wall p long wide stiff times most at.waves (i - at.waves) waves-some rises).1))
      | inr few ↦ each i some few
    ]

    -- and what is at most all up to there is at most all
    pub every-least : (l : ℚ) → ((i : ℕ) → 1 ≤ i → i ≤ at.waves → l ≤ℚ buckling_load wall p i) → (i : ℕ) → 1 ≤ i → l ≤ℚ buckling_load wall p i
    every-least l each i some = elim (cases_lt at.waves i) [
      | inl more ↦ (
          let rest : at.waves + (i - at.waves) ≡ i = omega (arith, more) in
          subst (λ j. l ≤ℚ buckling_load wall p j) rest
          (transitive (each at.waves waves-some (omega arith)) (Rising.load-least wall p long wide stiff times most at.waves (i - at.waves) waves-some rises).1))
      | inr few ↦ each i some few
    ]

    pub unloaded-every : (i : ℕ) → 1 ≤ i → whole (pos 0) ≤ℚ buckling_load wall p i
    unloaded-every = every-least (whole (pos 0)) (λ i some few. unloaded i some (omega (arith, few, waves-few)))

    pub verdict-stands : (r : ℤ) → pos 0 ≤ℤ r → by.panel_verdict n scale.q0 w p r ≡ Meets → StandsAbove wall p (whole r)
    verdict-stands r least e = every (panel_load p (whole r)) (λ i some few.
        let within : i ≤ 1903 = omega (arith, few, waves-few) in
        stands-at i some within r least (wave-meets n at (by.load_at at r) i (each-meets n at (by.load_at at r) at.waves e i some few)))

    pub verdict-buckles : (r : ℤ) → pos 0 ≤ℤ r → by.panel_verdict n scale.q0 w p r ≡ Fails → BucklesBelow wall p (whole r)
    verdict-buckles r least e =
        let one = one-fails n at (by.load_at at r) at.waves e in
        let within : one.0 ≤ 1903 = omega (arith, one.2, waves-few) in
        (one.0, one.1, buckles-at one.0 one.1 within r least (wave-fails n at (by.load_at at r) one.0 one.3))

-- the plies that carry load are those of the wall
pub wall-same : (stock : List Item) (job : JobData) (listed : List ItemNo) → items_of stock (wall_numbers job listed) ≡ wall_of stock job listed
wall-same stock job listed = by_liner job.liner_in_wall
  where
    by_liner : (t : Bool) → items_of stock (if t then job.liner ++ listed else listed) ≡ (if t then items_of stock (job.liner ++ listed) else items_of stock listed)
    by_liner true = refl
    by_liner false = refl
