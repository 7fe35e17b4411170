-- The strain of the mid-plane of every completion lies in the box.
use Rattle.std.proofs.Common.{◌≡◌, refl, sym, ◌∙◌, ap, ap₂, subst₂, ℕ, ◌*◌, ◌^◌, ◌≤◌, ℤ, pos, ◌*ℤ◌, ◌≤ℤ◌, ◌<ℤ◌, unsigned_abs, List, arith}
use Rattle.std.proofs.Math.Nat.{mul-le-mul}
use Rattle.std.proofs.lemmas.Int.{ints}
use Rattle.lam_fraction.specs.Fraction.{ℚ, whole, fraction, opposite, ◌-ℚ◌, ◌*ℚ◌, ◌≤ℚ◌, ◌<ℚ◌}
use Rattle.lam_fraction.specs.numbers.Arithmetic.{exact}
use Rattle.lam_fraction.specs.numbers.Numbers.{Numbers, Lawful, RatioRoom, unit}
use Rattle.lam_fraction.specs.inside.Reaches.{Reaches, sixteenths}
use Rattle.lam_fraction.specs.inside.Size.{AtMost}
use Rattle.lam_fraction.proofs.Expression.{int, ◌⊕◌, ◌⊖◌, ◌⊗◌, minus}
use Rattle.lam_fraction.proofs.Solver.{◌≐◌}
use Rattle.lam_fraction.proofs.FractionBounds.{fraction-times, whole_positive}
use Rattle.lam_fraction.proofs.Rationals.{solve, above, at_most_over, number, positive_number, ◌+ₙ◌, ◌*ₙ◌, ◌*ₚ◌, weaken}
use Rattle.lam_fraction.proofs.WholeFractions.{whole_at_most, natural-product}
use Rattle.lam_fraction.proofs.numbers.Rooms.{reaches_ratio_at}
use Rattle.lam_fraction.proofs.numbers.Steps.{one_unit, over_up-is}
use Rattle.lam_stock.specs.Energy.{strain_squares, twice_energy}
use Rattle.lam_stock.specs.PlyLaw.{OffAxis}
use Rattle.lam_stock.specs.declared.item.Item.{Item}
use Rattle.lam_stock.specs.declared.item.ItemNo.{ItemNo}
use Rattle.lam_stock.specs.declared.scale.Scale.{Scale}
use Rattle.lam_job.specs.declared.load.Load.{Load}
use Rattle.lam_job.specs.Equilibrium.{Solves}
use Rattle.lam_job.specs.LaminateStrain.{LaminateStrain}
use Rattle.lam_job.specs.Schedule.{items_of}
use Rattle.lam_job.specs.Wall.{wall_thickness}
use Rattle.lam_lamina.specs.Held.{HoldsMatrix}
use Rattle.lam_lamina.specs.declared.stiffness.Sym3.{Sym3}
use Rattle.lam_wall.specs.Assembled.{ArePlies}
use Rattle.lam_wall.proofs.OffAxes.{none}
use Rattle.lam_wall.proofs.CatalogueWalls.{floor-above, scale-above}
use Rattle.lam_solve.specs.inside.Parts.{IsPosed}
use Rattle.lam_solve.specs.inside.Steps.{over_up}
use Rattle.lam_solve.proofs.Units.{unit_most}
use Rattle.lam_tsai.specs.FaceStrains.{HoldsStrain}
use Rattle.lam_boxes.specs.declared.three.Three.{Three}
use Rattle.lam_boxes.specs.inside.Boxes.{box_round}
use Rattle.lam_boxes.specs.inside.Parts.{MatrixReaches, NearCentre, ThreeReach, eighth_reach, extension_reach, force_reach, small_reach}
use Rattle.lam_boxes.specs.inside.Residuals as by
use Rattle.lam_boxes.proofs.DualLength as dual
use Rattle.lam_boxes.proofs.HeldBox.{HoldsThree, around-holds, narrower, near-units, rest-holds, scaled-most, wider}
use Rattle.lam_boxes.proofs.HeldExtension.{shares_matrix}
use Rattle.lam_boxes.proofs.Work.{off_axis, work-at_most}

module _ {A : Type 0} {n : Numbers A} (laws : Lawful n) where
  -- ---- an eighth of a guess

  module _ (c : ℤ) (near : unsigned_abs c ≤ 4 * unit n) where
    pub eighth-room : RatioRoom c (pos (8 * unit n))
    eighth-room =
        let most = unit_most laws in
        let some = one_unit laws in
        record { positive = omega (arith, ints, some); den = omega (arith, ints, most); num = omega (arith, near, most); room = omega (arith, ints, near) }

    pub eighth-reaches : Reaches n eighth_reach (n.calc.ratio c (pos (8 * unit n)))
    eighth-reaches = reaches_ratio_at laws (sixteenths 8) c (pos (8 * unit n)) eighth-room (omega (arith, ints, near))

    -- eight times it is the guess
    eighth-units : whole (pos 8) *ℚ fraction c (pos (8 * unit n)) *ℚ whole (pos (unit n)) ≡ whole c
    eighth-units =
        let some = one_unit laws in
        solve 3 (λ k f u. k ⊗ f ⊗ u ≐ f ⊗ (k ⊗ u)) refl (whole (pos 8)) (fraction c (pos (8 * unit n))) (whole (pos (unit n)))
        ∙ ap (λ s. fraction c (pos (8 * unit n)) *ℚ s) (sym (natural-product 8 (unit n))) ∙ fraction-times c (pos (8 * unit n)) (omega (arith, ints, some))

  -- ---- forces

  pub force-reaches : {scale : Scale} {h : ℤ} {load : Load} (is : IsPosed scale h load) (f : ℤ) → RatioRoom f (pos 4 *ℤ (h *ℤ scale.q0))
      → unsigned_abs f ≤ unsigned_abs (pos 4 *ℤ (h *ℤ scale.q0)) → Reaches n force_reach (n.calc.ratio f (pos 4 *ℤ (h *ℤ scale.q0)))
  force-reaches {scale} {h} is f room order = reaches_ratio_at laws (sixteenths 16) f (pos 4 *ℤ (h *ℤ scale.q0)) room (omega (arith, order))

-- ---- the radius, as it is computed

pub some-product : (a b : ℕ) → 1 ≤ a → 1 ≤ b → 1 ≤ a * b
some-product a b p q = let h : 1 * 1 ≤ a * b = mul-le-mul p q in omega (arith, h)

pub radius-fits : (l q m : ℕ) → l ≤ 2 ^ 63 → q ≤ 2097152 → m ≤ 1280000 → 8 * l * (q * m) ≤ 2 ^ 108
radius-fits l q m a b c =
    let over : q * m ≤ 2097152 * 1280000 = mul-le-mul b c in
    let eight : 8 * l ≤ 8 * 2 ^ 63 = omega (arith, a) in
    let all : 8 * l * (q * m) ≤ 8 * 2 ^ 63 * (2097152 * 1280000) = mul-le-mul eight over in
    omega (arith, all)

-- ---- the radius, as fractions

natural : (z : ℤ) → pos 0 <ℤ z → whole (pos (unsigned_abs z)) ≡ whole z
natural z above_z = ap whole (omega (arith, ints, above_z))

radius-large : (l : ℕ) (q0 most floor least : ℤ) → pos 0 <ℤ q0 → pos 0 <ℤ most → pos 0 <ℤ floor → pos 0 <ℤ least
    → (r : ℕ) → 8 * l * (unsigned_abs q0 * unsigned_abs most) ≤ r * (unsigned_abs floor * unsigned_abs least)
    → whole (pos 8) *ℚ whole most *ℚ whole q0 *ℚ whole (pos l) ≤ℚ whole (pos r) *ℚ (whole floor *ℚ whole least)
radius-large l q0 most floor least a b c d r h =
    subst₂ (λ s t. s ≤ℚ t)
    (natural-product (8 * l) (unsigned_abs q0 * unsigned_abs most) ∙ ap₂ (λ s t. s *ℚ t) (natural-product 8 l) (natural-product (unsigned_abs q0) (unsigned_abs most) ∙ ap₂ (λ s t. s *ℚ t) (natural q0 a) (natural most b))
    ∙ solve 4 (λ k l q m. k ⊗ l ⊗ (q ⊗ m) ≐ k ⊗ m ⊗ q ⊗ l) refl (whole (pos 8)) (whole (pos l)) (whole q0) (whole most))
    (natural-product r (unsigned_abs floor * unsigned_abs least) ∙ ap (λ s. whole (pos r) *ℚ s) (natural-product (unsigned_abs floor) (unsigned_abs least) ∙ ap₂ (λ s t. s *ℚ t) (natural floor c) (natural least d)))
    (whole_at_most (omega (arith, ints, h)))

module _ (f w l r o : ℚ) (above_f : whole (pos 0) <ℚ f) (large : w *ℚ l ≤ℚ r *ℚ f) where
  -- a strain in x or y
  normal-most : (y : ℚ) → (f *ℚ y *ℚ o ≤ℚ w *ℚ l) × (opposite (f *ℚ y *ℚ o) ≤ℚ w *ℚ l) → (y *ℚ o ≤ℚ r) × (opposite (y *ℚ o) ≤ℚ r)
  unfolding ◌-ℚ◌
  normal-most y b = (
    at_most_over above_f (above large +ₙ above b.0) (solve 6 (λ f w l r o y. f ⊗ (r ⊖ y ⊗ o) ≐ (r ⊗ f ⊖ w ⊗ l) ⊕ (w ⊗ l ⊖ f ⊗ y ⊗ o)) refl f w l r o y),
    at_most_over above_f (above large +ₙ above b.1) (solve 6 (λ f w l r o y. f ⊗ (r ⊖ minus (y ⊗ o)) ≐ (r ⊗ f ⊖ w ⊗ l) ⊕ (w ⊗ l ⊖ minus (f ⊗ y ⊗ o))) refl f w l r o y),
  )

  -- the shear, with a radius s of which two are at least three of r
  shear-most : (s y : ℚ) → whole (pos 3) *ℚ r ≤ℚ whole (pos 2) *ℚ s
      → (whole (pos 2) *ℚ f *ℚ y *ℚ o ≤ℚ whole (pos 3) *ℚ w *ℚ l) × (opposite (whole (pos 2) *ℚ f *ℚ y *ℚ o) ≤ℚ whole (pos 3) *ℚ w *ℚ l) → (y *ℚ o ≤ℚ s) × (opposite (y *ℚ o) ≤ℚ s)
  unfolding ◌-ℚ◌
  shear-most s y half b = (
    at_most_over (positive_number 1 *ₚ above_f) (weaken above_f *ₙ above half +ₙ (number 3 *ₙ above large +ₙ above b.0))
        (solve 7 (λ f w l r o s y. int (pos 2) ⊗ f ⊗ (s ⊖ y ⊗ o) ≐ f ⊗ (int (pos 2) ⊗ s ⊖ int (pos 3) ⊗ r) ⊕ (int (pos 3) ⊗ (r ⊗ f ⊖ w ⊗ l) ⊕ (int (pos 3) ⊗ w ⊗ l ⊖ int (pos 2) ⊗ f ⊗ y ⊗ o))) refl f w l r o s y),
    at_most_over (positive_number 1 *ₚ above_f) (weaken above_f *ₙ above half +ₙ (number 3 *ₙ above large +ₙ above b.1))
        (solve 7 (λ f w l r o s y. int (pos 2) ⊗ f ⊗ (s ⊖ minus (y ⊗ o)) ≐ f ⊗ (int (pos 2) ⊗ s ⊖ int (pos 3) ⊗ r) ⊕ (int (pos 3) ⊗ (r ⊗ f ⊖ w ⊗ l) ⊕ (int (pos 3) ⊗ w ⊗ l ⊖ minus (int (pos 2) ⊗ f ⊗ y ⊗ o)))) refl f w l r o s y),
  )

half-up : (r : ℕ) → whole (pos 3) *ℚ whole (pos r) ≤ℚ whole (pos 2) *ℚ whole (pos (over_up (3 * r) 2))
half-up r =
    let up : 3 * r ≤ over_up (3 * r) 2 * 2 = over_up-is (3 * r) 2 (omega arith) in
    subst₂ (λ s t. s ≤ℚ t) (natural-product 3 r) (natural-product 2 (over_up (3 * r) 2)) (whole_at_most (omega (arith, ints, up)))

-- ---- the theorem
module _ {A : Type 0} {n : Numbers A} (laws : Lawful n) {scale : Scale} {stock : List Item} {numbers : List ItemNo} (plies : ArePlies scale stock numbers)
    (load : Load) (f : LaminateStrain) (solves : Solves (items_of stock numbers) load f) (unbent : f.curvature ≡ none)
    (most least : ℤ) (thick : pos 0 <ℤ most) (thin : pos 0 <ℤ least) (within : least ≤ℤ wall_thickness (items_of stock numbers))
    (m : Sym3 A) (reaches : MatrixReaches n extension_reach m) (holds : HoldsMatrix n m (shares_matrix scale.q0 most (items_of stock numbers)))
    (forces-reach : ThreeReach n force_reach (by.forces n.calc scale.q0 most load)) (forces-hold : HoldsThree n (by.forces n.calc scale.q0 most load) (by.forces exact scale.q0 most load))
    (c : Three ℤ) (near : NearCentre n c) where
  abbrev u : Three ℚ
  u = by.eighths exact (unit n) c

  abbrev rest : Three A
  rest = by.residual n.calc m (by.forces n.calc scale.q0 most load) (by.eighths n.calc (unit n) c)

  abbrev left : Three ℚ
  left = by.residual exact (shares_matrix scale.q0 most (items_of stock numbers)) (by.forces exact scale.q0 most load) u

  abbrev r : ℕ
  r = by.radius n scale most least rest

  pub eighths-reach : ThreeReach n eighth_reach (by.eighths n.calc (unit n) c)
  eighths-reach = record { x = eighth-reaches laws c.x near.x; y = eighth-reaches laws c.y near.y; s = eighth-reaches laws c.s near.s }

  eighths-hold : HoldsThree n (by.eighths n.calc (unit n) c) u
  eighths-hold = record {
    x = (laws.ratio c.x (pos (8 * unit n)) (eighth-room laws c.x near.x)).held;
    y = (laws.ratio c.y (pos (8 * unit n)) (eighth-room laws c.y near.y)).held;
    s = (laws.ratio c.s (pos (8 * unit n)) (eighth-room laws c.s near.s)).held;
  }

  left-holds : HoldsThree n rest left
  left-holds = rest-holds laws m _ _ _ _ _ reaches forces-reach eighths-reach holds forces-hold eighths-hold

  module _ (small : ThreeReach n small_reach rest) (narrow : r ≤ unit n) where
    abbrev floor-least : ℚ
    floor-least = whole scale.floor *ℚ whole least

    abbrev over : ℚ
    over = whole (pos 8) *ℚ whole most *ℚ whole scale.q0

    abbrev length : ℚ
    length = whole (pos (unsigned_abs (n.high (by.lengths n rest))))

    q0-above : pos 0 <ℤ scale.q0
    q0-above = scale-above plies.catalogue numbers

    floor-up : pos 0 <ℤ scale.floor
    floor-up = floor-above plies.catalogue numbers

    f-above : whole (pos 0) <ℚ floor-least
    f-above = whole_positive floor-up *ₚ whole_positive thin

    over-above : whole (pos 0) <ℚ over
    over-above = (positive_number 7 *ₚ whole_positive thick) *ₚ whole_positive q0-above

    large : over *ℚ length ≤ℚ whole (pos r) *ℚ floor-least
    large = radius-large (unsigned_abs (n.high (by.lengths n rest))) scale.q0 most scale.floor least q0-above thick floor-up thin r
        (over_up-is (8 * unsigned_abs (n.high (by.lengths n rest)) * (unsigned_abs scale.q0 * unsigned_abs most)) (unsigned_abs scale.floor * unsigned_abs least) (some-product (unsigned_abs scale.floor) (unsigned_abs least) (omega (arith, ints, floor-up)) (omega (arith, ints, thin))))

    abbrev y : OffAxis
    y = record { x = f.mid_plane.x -ℚ whole (pos 8) *ℚ u.x; y = f.mid_plane.y -ℚ whole (pos 8) *ℚ u.y; s = f.mid_plane.s -ℚ whole (pos 8) *ℚ u.s }

    work : floor-least *ℚ strain_squares y ≤ℚ over *ℚ twice_energy (off_axis left) y
    work = work-at_most plies load f solves unbent most thick u least within

    one : ℚ
    one = whole (pos (unit n))

    pub box-holds : HoldsStrain n (box_round n c r) f.mid_plane
    unfolding one
    box-holds =
        let w = weaken f-above in
        let x = scaled-most laws rest left small left-holds over (floor-least *ℚ y.x) over-above (dual.x-small floor-least over w y (off_axis left) work) in
        let t = scaled-most laws rest left small left-holds over (floor-least *ℚ y.y) over-above (dual.y-small floor-least over w y (off_axis left) work) in
        let s = scaled-most laws rest left small left-holds (whole (pos 3) *ℚ over) (whole (pos 2) *ℚ floor-least *ℚ y.s) (positive_number 2 *ₚ over-above) (dual.s-small floor-least over w y (off_axis left) work) in
        record {
          x = around-holds laws c.x r near.x (narrower laws r narrow) f.mid_plane.x
              (near-units laws c.x r f.mid_plane.x (whole (pos 8) *ℚ u.x) (eighth-units laws c.x near.x) (normal-most floor-least over length (whole (pos r)) one f-above large y.x x));
          y = around-holds laws c.y r near.y (narrower laws r narrow) f.mid_plane.y
              (near-units laws c.y r f.mid_plane.y (whole (pos 8) *ℚ u.y) (eighth-units laws c.y near.y) (normal-most floor-least over length (whole (pos r)) one f-above large y.y t));
          s = around-holds laws c.s (over_up (3 * r) 2) near.s (wider laws r narrow) f.mid_plane.s
              (near-units laws c.s (over_up (3 * r) 2) f.mid_plane.s (whole (pos 8) *ℚ u.s) (eighth-units laws c.s near.s)
              (shear-most floor-least over length (whole (pos r)) one f-above large (whole (pos (over_up (3 * r) 2))) y.s (half-up r) s));
        }

-- ---- five, in units

pub five-sign : (u : ℕ) (z : ℤ) → z ≡ pos (5 * u) → pos 0 ≤ℤ z
five-sign u z e = omega (arith, ints, e)

pub five-small : {A : Type 0} {n : Numbers A} → Lawful n → (z : ℤ) → z ≡ pos (5 * unit n) → AtMost (5 * 2 ^ 60) z
five-small laws z e = record { size = (let b = unit_most laws in omega (arith, ints, b, e)) }
