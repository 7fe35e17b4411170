-- The buckling load of a plate by the form of D at two shares: the load times the product of the shares is in proportion to
-- the form, and so is the load of a panel to a quotient of whole numbers.
use Rattle.std.proofs.Common.{◌≡◌, refl, sym, ◌∙◌, ap, ap₂, ℕ, ◌*◌, ◌≤◌, ℤ, pos, ◌+ℤ◌, ◌*ℤ◌, ◌<ℤ◌, List, arith}
use Rattle.std.proofs.lemmas.Int.{ints}
use Rattle.lam_fraction.specs.Fraction.{ℚ, whole, fraction, inverse, ◌+ℚ◌, ◌*ℚ◌, ◌/ℚ◌, ◌<ℚ◌, ◌-ℚ◌}
use Rattle.lam_fraction.specs.inside.WholeNumbers.{product_positive}
use Rattle.lam_fraction.specs.numbers.Arithmetic.{exact}
use Rattle.lam_fraction.proofs.Expression.{int, ◌⊕◌, ◌⊖◌, ◌⊗◌}
use Rattle.lam_fraction.proofs.Solver.{◌≐◌}
use Rattle.lam_fraction.proofs.Integers as Z
use Rattle.lam_fraction.proofs.Rationals.{solve, from₁, from₂, positive_number, same_without_factor, inverse_positive, ◌*ₚ◌}
use Rattle.lam_fraction.proofs.FractionBounds.{whole_positive, fraction-times}
use Rattle.lam_fraction.proofs.FractionRing.{whole-product}
use Rattle.lam_fraction.proofs.WholeFractions.{fraction_positive, inverse-whole}
use Rattle.lam_stock.specs.declared.item.Item.{Item}
use Rattle.lam_stock.specs.PlyLaw.{two}
use Rattle.lam_job.specs.JobData.{PanelData}
use Rattle.lam_job.specs.Plate.{stiffness_11, stiffness_12, stiffness_22, stiffness_66, circle_square, buckling_load, panel_load}
use Rattle.lam_job.specs.Wall.{wall_thickness}
use Rattle.lam_wall.specs.Matrices.{Matrices}
use Rattle.lam_wall.specs.MatrixLaw.{AreMatrices}
use Rattle.lam_wall.proofs.UnitStrains.{bending_unit, bending_11, bending_12, bending_22, bending_66}
use Rattle.lam_plate.specs.inside.Formulas as by

-- ---- the shares

-- s is w b i and t is a i, where i is over the sum; p is w / a, and j is over b
along_share : (w a b i p j : ℚ) → p *ℚ a ≡ w → b *ℚ j ≡ whole (pos 1) → (w *ℚ b *ℚ i) *ℚ (a *ℚ i) *ℚ p ≡ (w *ℚ b *ℚ i) *ℚ (w *ℚ b *ℚ i) *ℚ j
unfolding ◌-ℚ◌
along_share w a b i p j e f =
    from₂ (w *ℚ b *ℚ i *ℚ i) e (whole (pos 0) -ℚ w *ℚ w *ℚ b *ℚ i *ℚ i) f
    (solve 6 (λ w a b i p j. (w ⊗ b ⊗ i) ⊗ (a ⊗ i) ⊗ p
    ≐ (w ⊗ b ⊗ i) ⊗ (w ⊗ b ⊗ i) ⊗ j ⊕ (w ⊗ b ⊗ i ⊗ i) ⊗ (p ⊗ a ⊖ w) ⊕ (int (pos 0) ⊖ w ⊗ w ⊗ b ⊗ i ⊗ i) ⊗ (b ⊗ j ⊖ int (pos 1))) refl w a b i p j)

-- r is a / (b b w)
across_share : (w a b i r j : ℚ) → r *ℚ (b *ℚ b *ℚ w) ≡ a → b *ℚ j ≡ whole (pos 1) → (w *ℚ b *ℚ i) *ℚ (a *ℚ i) *ℚ r ≡ (a *ℚ i) *ℚ (a *ℚ i) *ℚ j
unfolding ◌-ℚ◌
across_share w a b i r j e f =
    from₂ (a *ℚ i *ℚ i *ℚ j) e (whole (pos 0) -ℚ a *ℚ i *ℚ i *ℚ r *ℚ b *ℚ w) f
    (solve 6 (λ w a b i r j. (w ⊗ b ⊗ i) ⊗ (a ⊗ i) ⊗ r
    ≐ (a ⊗ i) ⊗ (a ⊗ i) ⊗ j ⊕ (a ⊗ i ⊗ i ⊗ j) ⊗ (r ⊗ (b ⊗ b ⊗ w) ⊖ a) ⊕ (int (pos 0) ⊖ a ⊗ i ⊗ i ⊗ r ⊗ b ⊗ w) ⊗ (b ⊗ j ⊖ int (pos 1))) refl w a b i r j)

-- d, e and f are a quarter, a half and a quarter of entries of D, and n is D66
form_of_load : (c u k j p r d e f n s t : ℚ) → s *ℚ t *ℚ p ≡ s *ℚ s *ℚ j → s *ℚ t *ℚ r ≡ t *ℚ t *ℚ j
    → c *ℚ (u *ℚ (whole (pos 4) *ℚ d) *ℚ p +ℚ whole (pos 2) *ℚ (u *ℚ (whole (pos 2) *ℚ e) +ℚ whole (pos 2) *ℚ (u *ℚ n)) *ℚ j +ℚ u *ℚ (whole (pos 4) *ℚ f) *ℚ r) *ℚ k *ℚ (s *ℚ t)
    ≡ c *ℚ u *ℚ k *ℚ j *ℚ whole (pos 4) *ℚ (d *ℚ (s *ℚ s) +ℚ (e +ℚ n) *ℚ (s *ℚ t) +ℚ f *ℚ (t *ℚ t))
unfolding ◌-ℚ◌
form_of_load c u k j p r d e f n s t x y =
    from₂ (c *ℚ u *ℚ whole (pos 4) *ℚ d *ℚ k) x (c *ℚ u *ℚ whole (pos 4) *ℚ f *ℚ k) y
    (solve 12 (λ c u k j p r d e f n s t.
    c ⊗ (u ⊗ (int (pos 4) ⊗ d) ⊗ p ⊕ int (pos 2) ⊗ (u ⊗ (int (pos 2) ⊗ e) ⊕ int (pos 2) ⊗ (u ⊗ n)) ⊗ j ⊕ u ⊗ (int (pos 4) ⊗ f) ⊗ r) ⊗ k ⊗ (s ⊗ t)
    ≐ c ⊗ u ⊗ k ⊗ j ⊗ int (pos 4) ⊗ (d ⊗ (s ⊗ s) ⊕ (e ⊕ n) ⊗ (s ⊗ t) ⊕ f ⊗ (t ⊗ t))
    ⊕ (c ⊗ u ⊗ int (pos 4) ⊗ d ⊗ k) ⊗ (s ⊗ t ⊗ p ⊖ s ⊗ s ⊗ j)
    ⊕ (c ⊗ u ⊗ int (pos 4) ⊗ f ⊗ k) ⊗ (s ⊗ t ⊗ r ⊖ t ⊗ t ⊗ j)) refl c u k j p r d e f n s t)

-- a part times its number
parts : (n : ℤ) (x : ℚ) → pos 0 <ℤ n → whole n *ℚ (x /ℚ whole n) ≡ x
unfolding ◌-ℚ◌ ◌/ℚ◌
parts n x h = from₁ x (inverse-whole n h) (solve 3 (λ n x i. n ⊗ (x ⊗ i) ≐ x ⊕ x ⊗ (n ⊗ i ⊖ int (pos 1))) refl (whole n) x (inverse (whole n)))

-- ---- a panel of a wall
module _ (q0 : ℤ) (wall : List Item) (m : Matrices) (are : AreMatrices q0 wall m) (p : PanelData) (long : pos 0 <ℤ p.length) (wide : pos 0 <ℤ p.width) where
  abbrev pub aa : ℤ
  aa = p.length *ℤ p.length

  abbrev pub bb : ℤ
  bb = p.width *ℤ p.width

  abbrev unit : ℚ
  unit = bending_unit q0 wall m are

  abbrev million : ℚ
  million = inverse (whole (pos 1000000))

  abbrev over_width : ℚ
  over_width = inverse (whole bb)

  -- what both sides have in common
  abbrev pub common : ℚ
  common = circle_square *ℚ unit *ℚ million *ℚ over_width *ℚ whole (pos 4)

  aa_above : pos 0 <ℤ aa
  aa_above = product_positive p.length p.length long long

  bb_above : pos 0 <ℤ bb
  bb_above = product_positive p.width p.width wide wide

  abbrev pub along_part : ℕ → ℚ
  along_part n = by.share exact ((pos n *ℤ pos n) *ℤ bb) aa

  abbrev pub across_part : ℕ → ℚ
  across_part n = by.share exact aa ((pos n *ℤ pos n) *ℤ bb)

  abbrev pub form_at : ℕ → ℚ
  form_at n = by.form exact (by.bending exact m.d) (along_part n) (across_part n) (along_part n *ℚ across_part n)

  module _ (n : ℕ) (some : 1 ≤ n) where
    abbrev mm : ℤ
    mm = pos n *ℤ pos n

    mm_above : pos 0 <ℤ mm
    mm_above = product_positive (pos n) (pos n) (omega (arith, ints, some)) (omega (arith, ints, some))

    abbrev over_sum : ℚ
    over_sum = inverse (whole (mm *ℤ bb +ℤ aa))

    along_is : along_part n ≡ whole mm *ℚ whole bb *ℚ over_sum
    unfolding fraction ◌/ℚ◌
    along_is = ap (λ w. w *ℚ over_sum) (whole-product mm bb)

    across_is : across_part n ≡ whole aa *ℚ over_sum
    unfolding fraction ◌/ℚ◌
    across_is = ap (λ (z : ℤ). whole aa *ℚ inverse (whole z)) (let e : aa +ℤ mm *ℤ bb ≡ mm *ℤ bb +ℤ aa = omega (arith, ints) in e)

    abbrev s : ℚ
    s = whole mm *ℚ whole bb *ℚ over_sum

    abbrev t : ℚ
    t = whole aa *ℚ over_sum

    wave_is : fraction mm aa *ℚ whole aa ≡ whole mm
    wave_is = fraction-times mm aa aa_above

    length_is : fraction aa ((bb *ℤ bb) *ℤ mm) *ℚ (whole bb *ℚ whole bb *ℚ whole mm) ≡ whole aa
    length_is =
        ap (λ z. fraction aa ((bb *ℤ bb) *ℤ mm) *ℚ z) (sym (whole-product (bb *ℤ bb) mm ∙ ap (λ z. z *ℚ whole mm) (whole-product bb bb)))
        ∙ fraction-times aa ((bb *ℤ bb) *ℤ mm) (product_positive (bb *ℤ bb) mm (product_positive bb bb bb_above bb_above) mm_above)

    pub load_by_form : buckling_load wall p n *ℚ (along_part n *ℚ across_part n) ≡ common *ℚ form_at n
    unfolding ◌/ℚ◌
    load_by_form =
        let four : pos 0 <ℤ pos 4 = omega (arith, ints) in
        let pair : pos 0 <ℤ pos 2 = omega (arith, ints) in
        let s11 : stiffness_11 wall ≡ unit *ℚ (whole (pos 4) *ℚ (m.d.xx /ℚ whole (pos 4))) = bending_11 q0 wall m are ∙ ap (λ z. unit *ℚ z) (sym (parts (pos 4) m.d.xx four)) in
        let s12 : stiffness_12 wall ≡ unit *ℚ (whole (pos 2) *ℚ (m.d.xy /ℚ whole (pos 2))) = bending_12 q0 wall m are ∙ ap (λ z. unit *ℚ z) (sym (parts (pos 2) m.d.xy pair)) in
        let s22 : stiffness_22 wall ≡ unit *ℚ (whole (pos 4) *ℚ (m.d.yy /ℚ whole (pos 4))) = bending_22 q0 wall m are ∙ ap (λ z. unit *ℚ z) (sym (parts (pos 4) m.d.yy four)) in
        let s66 : stiffness_66 wall ≡ unit *ℚ m.d.ss = bending_66 q0 wall m are in
        let r = fraction aa ((bb *ℤ bb) *ℤ mm) in
        ap₂ ◌*ℚ◌
        (ap (λ z. circle_square *ℚ z *ℚ million)
        (ap₂ ◌+ℚ◌
        (ap₂ ◌+ℚ◌ (ap (λ z. z *ℚ fraction mm aa) s11) (ap₂ (λ x y. two *ℚ (x +ℚ two *ℚ y) *ℚ over_width) s12 s66))
        (ap (λ z. z *ℚ r) s22)))
        (ap₂ ◌*ℚ◌ along_is across_is)
        ∙ form_of_load circle_square unit million over_width (fraction mm aa) r (m.d.xx /ℚ whole (pos 4)) (m.d.xy /ℚ whole (pos 2)) (m.d.yy /ℚ whole (pos 4)) m.d.ss s t
        (along_share (whole mm) (whole aa) (whole bb) over_sum (fraction mm aa) over_width wave_is (inverse-whole bb bb_above))
        (across_share (whole mm) (whole aa) (whole bb) over_sum r over_width length_is (inverse-whole bb bb_above))
        ∙ ap₂ (λ x y. common *ℚ by.form exact (by.bending exact m.d) x y (x *ℚ y)) (sym along_is) (sym across_is)

    pub parts_above : whole (pos 0) <ℚ along_part n *ℚ across_part n
    parts_above =
        let first : pos 0 <ℤ (mm *ℤ bb) = product_positive mm bb mm_above bb_above in
        fraction_positive (mm *ℤ bb) (mm *ℤ bb +ℤ aa) first (let a = aa_above in omega (arith, ints, a, first))
        *ₚ fraction_positive aa (aa +ℤ mm *ℤ bb) aa_above (let a = aa_above in omega (arith, ints, a, first))

  -- ---- the load of a panel
  module _ (thick : pos 0 <ℤ wall_thickness wall) (scaled : pos 0 <ℤ q0) where
    abbrev h : ℤ
    h = wall_thickness wall

    cube_above : pos 0 <ℤ (h *ℤ (h *ℤ (h *ℤ q0)))
    cube_above = product_positive h (h *ℤ (h *ℤ q0)) thick (product_positive h (h *ℤ q0) thick (product_positive h q0 thick scaled))

    pub common_above : whole (pos 0) <ℚ common
    common_above =
        fraction_positive (pos (333 * 333)) (pos (106 * 106)) (omega (arith, ints)) (omega (arith, ints)) *ₚ fraction_positive (h *ℤ (h *ℤ (h *ℤ q0))) (pos 4) cube_above (omega (arith, ints))
        *ₚ inverse_positive (positive_number 999999) *ₚ inverse_positive (whole_positive bb_above) *ₚ positive_number 3

    pub stiffness_above : pos 0 <ℤ by.stiffness_units q0 h
    stiffness_above = product_positive (pos 110889) ((h *ℤ h) *ℤ (h *ℤ q0)) (omega (arith, ints)) (product_positive (h *ℤ h) (h *ℤ q0) (product_positive h h thick thick) (product_positive h q0 thick scaled))

    units_in_order : (h q : ℤ) → pos 110889 *ℤ ((h *ℤ h) *ℤ (h *ℤ q)) ≡ pos 110889 *ℤ (h *ℤ (h *ℤ (h *ℤ q)))
    units_in_order h q = Z.solve 2 (λ h q. int (pos 110889) ⊗ ((h ⊗ h) ⊗ (h ⊗ q)) ≐ int (pos 110889) ⊗ (h ⊗ (h ⊗ (h ⊗ q)))) refl h q

    stiffness_is : whole (by.stiffness_units q0 h) ≡ whole (pos 110889) *ℚ whole (h *ℤ (h *ℤ (h *ℤ q0)))
    stiffness_is = ap whole (units_in_order h q0) ∙ whole-product (pos 110889) (h *ℤ (h *ℤ (h *ℤ q0)))

    load_is : (r : ℤ) → whole (r *ℤ by.load_units p) ≡ whole r *ℚ (whole p.load *ℚ whole bb *ℚ whole (pos 11236000))
    load_is r = whole-product r (by.load_units p) ∙ ap (λ z. whole r *ℚ z) (whole-product (p.load *ℤ bb) (pos 11236000) ∙ ap (λ z. z *ℚ whole (pos 11236000)) (whole-product p.load bb))

    -- both times 11236, a million and the square of the width
    left_side : (r l n b : ℚ) → l *ℚ whole (pos 1000) ≡ n → whole (pos 11236) *ℚ whole (pos 1000000) *ℚ b *ℚ (r *ℚ l) ≡ r *ℚ (n *ℚ b *ℚ whole (pos 11236000))
    unfolding ◌-ℚ◌
    left_side r l n b e = from₁ (whole (pos 11236000) *ℚ r *ℚ b) e
        (solve 4 (λ r l n b. int (pos 11236) ⊗ int (pos 1000000) ⊗ b ⊗ (r ⊗ l) ≐ r ⊗ (n ⊗ b ⊗ int (pos 11236000)) ⊕ (int (pos 11236000) ⊗ r ⊗ b) ⊗ (l ⊗ int (pos 1000) ⊖ n)) refl r l n b)

    right_side : (c u k j b f : ℚ) → whole (pos 11236) *ℚ whole (pos 1000000) *ℚ b *ℚ (c *ℚ u *ℚ k *ℚ j *ℚ whole (pos 4) *ℚ f) ≡ (c *ℚ whole (pos 11236)) *ℚ (u *ℚ whole (pos 4)) *ℚ (whole (pos 1000000) *ℚ k) *ℚ (b *ℚ j) *ℚ f
    unfolding ◌-ℚ◌
    right_side = solve 6 (λ c u k j b f. int (pos 11236) ⊗ int (pos 1000000) ⊗ b ⊗ (c ⊗ u ⊗ k ⊗ j ⊗ int (pos 4) ⊗ f) ≐ (c ⊗ int (pos 11236)) ⊗ (u ⊗ int (pos 4)) ⊗ (int (pos 1000000) ⊗ k) ⊗ (b ⊗ j) ⊗ f) refl

    ones : (x y f : ℚ) → x *ℚ y *ℚ whole (pos 1) *ℚ whole (pos 1) *ℚ f ≡ f *ℚ (x *ℚ y)
    unfolding ◌-ℚ◌
    ones = solve 3 (λ x y f. x ⊗ y ⊗ int (pos 1) ⊗ int (pos 1) ⊗ f ≐ f ⊗ (x ⊗ y)) refl

    pub load_by_units : (r : ℤ) → panel_load p (whole r) ≡ common *ℚ fraction (r *ℤ by.load_units p) (by.stiffness_units q0 h)
    load_by_units r =
        let quotient = fraction (r *ℤ by.load_units p) (by.stiffness_units q0 h) in
        same_without_factor (whole (pos 11236) *ℚ whole (pos 1000000) *ℚ whole bb) (positive_number 11235 *ₚ positive_number 999999 *ₚ whole_positive bb_above)
        (left_side (whole r) (fraction p.load (pos 1000)) (whole p.load) (whole bb) (fraction-times p.load (pos 1000) (omega (arith, ints)))
        ∙ sym (load_is r) ∙ sym (fraction-times (r *ℤ by.load_units p) (by.stiffness_units q0 h) stiffness_above)
        ∙ ap (λ z. quotient *ℚ z) stiffness_is ∙ sym (ones (whole (pos 110889)) (whole (h *ℤ (h *ℤ (h *ℤ q0)))) quotient)
        ∙ sym (ap₂ (λ x y. x *ℚ y *ℚ whole (pos 1) *ℚ whole (pos 1) *ℚ quotient) (fraction-times (pos (333 * 333)) (pos (106 * 106)) (omega (arith, ints))) (fraction-times (h *ℤ (h *ℤ (h *ℤ q0))) (pos 4) (omega (arith, ints))))
        ∙ sym (ap₂ (λ x y. circle_square *ℚ whole (pos 11236) *ℚ (unit *ℚ whole (pos 4)) *ℚ x *ℚ y *ℚ quotient) (inverse-whole (pos 1000000) (omega (arith, ints))) (inverse-whole bb bb_above))
        ∙ sym (right_side circle_square unit million over_width (whole bb) quotient))
