-- The work of what a guess leaves: the energy of a wall bounds how far the strains of its mid-plane lie from the guess, where
-- the wall does not bend. What is left is measured by a thickness that is at least the wall's, and the bound is by one that
-- is at most the wall's.
use Rattle.std.proofs.Common.{◌≡◌, refl, sym, ◌∙◌, ap, subst, ℤ, pos, neg_ℤ, ◌*ℤ◌, ◌≤ℤ◌, ◌<ℤ◌, List, arith}
use Rattle.std.proofs.lemmas.Int.{ints}
use Rattle.lam_fraction.specs.Fraction.{ℚ, whole, fraction, inverse, ◌+ℚ◌, ◌-ℚ◌, ◌*ℚ◌, ◌/ℚ◌, ◌≤ℚ◌}
use Rattle.lam_fraction.specs.Sums.{sum_over}
use Rattle.lam_fraction.specs.numbers.Arithmetic.{exact}
use Rattle.lam_fraction.specs.inside.WholeNumbers.{product_positive}
use Rattle.lam_fraction.proofs.Expression.{int, ◌⊕◌, ◌⊖◌, ◌⊗◌}
use Rattle.lam_fraction.proofs.Solver.{◌≐◌}
use Rattle.lam_fraction.proofs.FractionBounds.{fraction-times, times-inverse, whole_positive}
use Rattle.lam_fraction.proofs.Rationals.{solve, from₁, above, at_most, positive_number, same_without_factor, weaken, ◌+ₙ◌, ◌*ₙ◌, ◌*ₚ◌}
use Rattle.lam_fraction.proofs.WholeFractions.{whole_at_most, whole-product₃}
use Rattle.lam_stock.specs.PlyLaw.{OffAxis}
use Rattle.lam_stock.specs.Energy.{strain_squares, twice_energy}
use Rattle.lam_stock.specs.declared.item.Item.{Item}
use Rattle.lam_stock.specs.declared.item.ItemNo.{ItemNo}
use Rattle.lam_stock.specs.declared.scale.Scale.{Scale}
use Rattle.lam_job.specs.declared.load.Load.{Load}
use Rattle.lam_job.specs.Equilibrium.{Solves}
use Rattle.lam_job.specs.LaminateStrain.{LaminateStrain}
use Rattle.lam_job.specs.Schedule.{items_of}
use Rattle.lam_job.specs.Wall.{placed_plies, wall_thickness}
use Rattle.lam_lamina.specs.Stiffness.{stress_of}
use Rattle.lam_wall.specs.Assembled.{ArePlies}
use Rattle.lam_wall.specs.Energy.{mean_squares}
use Rattle.lam_wall.specs.MatrixLaw.{load_forces}
use Rattle.lam_wall.specs.Matrices.{Matrices, bending_strain, forces, matrices, moments, stiffness_of}
use Rattle.lam_wall.specs.QuadraticForm.{HasFormBetween, quadratic_form}
use Rattle.lam_wall.proofs.CatalogueWalls.{floor-above, plies-exact, plies-form, plies-thick, scale-above}
use Rattle.lam_wall.proofs.Equilibrium.{equilibrium_by_matrices}
use Rattle.lam_wall.proofs.MeanSquares.{squares_above}
use Rattle.lam_wall.proofs.OffAxes.{less, none}
use Rattle.lam_boxes.specs.declared.three.Three.{Three}
use Rattle.lam_boxes.specs.inside.Residuals as by
use Rattle.lam_boxes.proofs.HeldExtension.{shares_matrix}
use Rattle.lam_boxes.proofs.PlySums.{placed-sum, shares, shares-layers}

-- ---- a wall that does not bend

squares-flat : (y : OffAxis) → mean_squares y none ≡ strain_squares y
unfolding ◌-ℚ◌ ◌/ℚ◌
squares-flat y = solve 5 (λ a b c h i.
    (a ⊗ a ⊕ b ⊗ b ⊕ h ⊗ (c ⊗ c)) ⊕ (int (pos 0) ⊗ int (pos 0) ⊕ int (pos 0) ⊗ int (pos 0) ⊕ h ⊗ (int (pos 0) ⊗ int (pos 0))) ⊗ i
    ≐ a ⊗ a ⊕ b ⊗ b ⊕ h ⊗ (c ⊗ c)) refl y.x y.y y.s (fraction (pos 1) (pos 2)) (inverse (whole (pos 3)))

-- a row of the forces
row-flat : (a b c p q r x y s : ℚ) → (a *ℚ x +ℚ b *ℚ y +ℚ c *ℚ s) +ℚ (p *ℚ whole (pos 0) +ℚ q *ℚ whole (pos 0) +ℚ r *ℚ whole (pos 0)) ≡ a *ℚ x +ℚ b *ℚ y +ℚ c *ℚ s
unfolding ◌-ℚ◌
row-flat = solve 9 (λ a b c p q r x y s. (a ⊗ x ⊕ b ⊗ y ⊕ c ⊗ s) ⊕ (p ⊗ int (pos 0) ⊕ q ⊗ int (pos 0) ⊕ r ⊗ int (pos 0)) ≐ a ⊗ x ⊕ b ⊗ y ⊕ c ⊗ s) refl

forces-flat : (m : Matrices) (y : OffAxis) → forces m y none ≡ stress_of m.a y
forces-flat m y =
    let x = row-flat m.a.xx m.a.xy m.a.xs m.b.xx m.b.xy m.b.xs y.x y.y y.s in
    let t = row-flat m.a.xy m.a.yy m.a.ys m.b.xy m.b.yy m.b.ys y.x y.y y.s in
    let s = row-flat m.a.xs m.a.ys m.a.ss m.b.xs m.b.ys m.b.ss y.x y.y y.s in
    λ j. record { x = x j; y = t j; s = s j }

no_work : (t y : OffAxis) (w : ℚ) → w +ℚ twice_energy t none ≡ w
unfolding ◌-ℚ◌
no_work t y w = solve 4 (λ w x y s. w ⊕ (x ⊗ int (pos 0) ⊕ y ⊗ int (pos 0) ⊕ s ⊗ int (pos 0)) ≐ w) refl w t.x t.y t.s

form-flat : (m : Matrices) (y : OffAxis) → quadratic_form m y none ≡ twice_energy (stress_of m.a y) y
form-flat m y = no_work (moments m y none) y (twice_energy (forces m y none) y) ∙ ap (λ t. twice_energy t y) (forces-flat m y)

bending-flat : (h : ℤ) → bending_strain h none ≡ none
unfolding ◌-ℚ◌
bending-flat h =
    let z = solve 1 (λ f. f ⊗ int (pos 0) ≐ int (pos 0)) refl (fraction h (pos 2)) in
    λ j. record { x = z j; y = z j; s = z j }

-- ---- the energy in extension

module _ (floor q0 : ℤ) (scale : pos 0 <ℤ q0) (m : Matrices) (y : OffAxis) (form : HasFormBetween floor q0 m y none) where
  pub stretching : whole floor *ℚ strain_squares y ≤ℚ whole q0 *ℚ twice_energy (stress_of m.a y) y
  unfolding ◌-ℚ◌
  stretching =
      let f = subst (λ q. fraction floor q0 *ℚ mean_squares y none ≤ℚ q) (form-flat m y) form.0 in
      let g = subst (λ s. fraction floor q0 *ℚ s ≤ℚ twice_energy (stress_of m.a y) y) (squares-flat y) f in
      at_most (weaken (whole_positive scale) *ₙ above g)
      (from₁ (strain_squares y) (fraction-times floor q0 scale)
      (solve 5 (λ p q f n w. q ⊗ w ⊖ f ⊗ n ≐ q ⊗ (w ⊖ p ⊗ n) ⊕ n ⊗ (p ⊗ q ⊖ f)) refl (fraction floor q0) (whole q0) (whole floor) (strain_squares y) (twice_energy (stress_of m.a y) y)))

-- ---- what a guess leaves

-- the same force over two thicknesses
force-over : (q0 h : ℤ) → pos 0 <ℤ q0 → pos 0 <ℤ h → (f : ℤ) → whole (pos 4) *ℚ whole q0 *ℚ (whole h *ℚ fraction f (pos 4 *ℤ (h *ℤ q0))) ≡ whole f
unfolding ◌-ℚ◌
force-over q0 h scale thick f =
    let d = pos 4 *ℤ (h *ℤ q0) in
    let positive = product_positive (pos 4) (h *ℤ q0) (omega (arith, ints)) (product_positive h q0 thick scale) in
    solve 4 (λ k q h x. k ⊗ q ⊗ (h ⊗ x) ≐ x ⊗ (k ⊗ (h ⊗ q))) refl (whole (pos 4)) (whole q0) (whole h) (fraction f d)
    ∙ ap (λ s. fraction f d *ℚ s) (sym (whole-product₃ (pos 4) h q0)) ∙ fraction-times f d positive

same-force : (q0 h k : ℤ) → pos 0 <ℤ q0 → pos 0 <ℤ h → pos 0 <ℤ k → (f : ℤ) → whole h *ℚ fraction f (pos 4 *ℤ (h *ℤ q0)) ≡ whole k *ℚ fraction f (pos 4 *ℤ (k *ℤ q0))
same-force q0 h k scale thick thick' f =
    same_without_factor (whole (pos 4) *ℚ whole q0) (positive_number 3 *ₚ whole_positive scale) (force-over q0 h scale thick f ∙ sym (force-over q0 k scale thick' f))

-- a row of it: A, B, C over the greater thickness g and a, b, c over the wall's own h
row-left : (g h l k a b c p q r A B C e f s i : ℚ)
    → whole (pos 8) *ℚ i ≡ whole (pos 1) → g *ℚ l ≡ h *ℚ k → k ≡ a *ℚ e +ℚ b *ℚ f +ℚ c *ℚ s → A *ℚ g ≡ a *ℚ h → B *ℚ g ≡ b *ℚ h → C *ℚ g ≡ c *ℚ h
    → whole (pos 8) *ℚ g *ℚ (l *ℚ i -ℚ ((A *ℚ p +ℚ B *ℚ q) +ℚ C *ℚ r))
    ≡ h *ℚ (a *ℚ (e -ℚ whole (pos 8) *ℚ p) +ℚ b *ℚ (f -ℚ whole (pos 8) *ℚ q) +ℚ c *ℚ (s -ℚ whole (pos 8) *ℚ r))
unfolding ◌-ℚ◌
row-left g h l k a b c p q r A B C e f s i eighth loads balance ha hb hc =
    solve 9 (λ g l i p q r A B C. int (pos 8) ⊗ g ⊗ (l ⊗ i ⊖ ((A ⊗ p ⊕ B ⊗ q) ⊕ C ⊗ r)) ≐ int (pos 8) ⊗ i ⊗ (g ⊗ l) ⊖ int (pos 8) ⊗ (A ⊗ g ⊗ p ⊕ B ⊗ g ⊗ q ⊕ C ⊗ g ⊗ r)) refl g l i p q r A B C
    ∙ (λ j. eighth j *ℚ (loads j) -ℚ whole (pos 8) *ℚ (ha j *ℚ p +ℚ hb j *ℚ q +ℚ hc j *ℚ r))
    ∙ ap (λ k. whole (pos 1) *ℚ (h *ℚ k) -ℚ whole (pos 8) *ℚ (a *ℚ h *ℚ p +ℚ b *ℚ h *ℚ q +ℚ c *ℚ h *ℚ r)) balance
    ∙ solve 10 (λ h a b c e f s p q r. int (pos 1) ⊗ (h ⊗ (a ⊗ e ⊕ b ⊗ f ⊕ c ⊗ s)) ⊖ int (pos 8) ⊗ (a ⊗ h ⊗ p ⊕ b ⊗ h ⊗ q ⊕ c ⊗ h ⊗ r)
    ≐ h ⊗ (a ⊗ (e ⊖ int (pos 8) ⊗ p) ⊕ b ⊗ (f ⊖ int (pos 8) ⊗ q) ⊕ c ⊗ (s ⊖ int (pos 8) ⊗ r))) refl h a b c e f s p q r

-- eight times a guess
abbrev pub eightfold : Three ℚ → OffAxis
eightfold u = record { x = whole (pos 8) *ℚ u.x; y = whole (pos 8) *ℚ u.y; s = whole (pos 8) *ℚ u.s }

-- what is left, as three forces
abbrev pub off_axis : Three ℚ → OffAxis
off_axis r = record { x = r.x; y = r.y; s = r.s }

module _ {scale : Scale} {stock : List Item} {numbers : List ItemNo} (plies : ArePlies scale stock numbers) (load : Load) (f : LaminateStrain)
    (solves : Solves (items_of stock numbers) load f) (unbent : f.curvature ≡ none) where
  abbrev wall : List Item
  wall = items_of stock numbers

  abbrev h : ℤ
  h = wall_thickness wall

  abbrev m : Matrices
  m = matrices (stiffness_of scale.q0) wall

  abbrev e : OffAxis
  e = f.mid_plane

  q0-above : pos 0 <ℤ scale.q0
  q0-above = scale-above plies.catalogue numbers

  balance : load_forces scale.q0 h load ≡ stress_of m.a e
  balance =
      sym (((equilibrium_by_matrices scale.q0 wall m load f q0-above (plies-thick plies) (plies-exact plies)).0 solves).forces)
      ∙ ap (forces m e) (ap (bending_strain h) unbent ∙ bending-flat h) ∙ forces-flat m e

  -- a greater thickness, and a guess in eighths
  module _ (most : ℤ) (thick : pos 0 <ℤ most) (u : Three ℚ) where
    abbrev rest : Three ℚ
    rest = by.residual exact (shares_matrix scale.q0 most wall) (by.forces exact scale.q0 most load) u

    abbrev y : OffAxis
    y = less e (eightfold u)

    -- an entry over both thicknesses
    entry : (g : Item → ℚ) → shares most g wall *ℚ whole most ≡ sum_over (λ p. fraction p.item.lamina.t h *ℚ g p.item) (placed_plies wall) *ℚ whole h
    entry g =
        shares-layers most thick g wall
        ∙ sym (ap (λ s. s *ℚ whole h) (placed-sum (λ i. fraction i.lamina.t h *ℚ g i) (neg_ℤ h) wall) ∙ shares-layers h (plies-thick plies) g wall)

    eighth : whole (pos 8) *ℚ inverse (whole (pos 8)) ≡ whole (pos 1)
    eighth = times-inverse (positive_number 7)

    left-x : whole (pos 8) *ℚ whole most *ℚ rest.x ≡ whole h *ℚ (stress_of m.a y).x
    unfolding ◌/ℚ◌
    left-x = row-left (whole most) (whole h) _ _ m.a.xx m.a.xy m.a.xs u.x u.y u.s _ _ _ e.x e.y e.s (inverse (whole (pos 8))) eighth
        (same-force scale.q0 most h q0-above thick (plies-thick plies) load.nx) (ap (λ t. t.x) balance)
        (entry (λ i. (stiffness_of scale.q0 i).xx)) (entry (λ i. (stiffness_of scale.q0 i).xy)) (entry (λ i. (stiffness_of scale.q0 i).xs))

    left-y : whole (pos 8) *ℚ whole most *ℚ rest.y ≡ whole h *ℚ (stress_of m.a y).y
    unfolding ◌/ℚ◌
    left-y = row-left (whole most) (whole h) _ _ m.a.xy m.a.yy m.a.ys u.x u.y u.s _ _ _ e.x e.y e.s (inverse (whole (pos 8))) eighth
        (same-force scale.q0 most h q0-above thick (plies-thick plies) load.ny) (ap (λ t. t.y) balance)
        (entry (λ i. (stiffness_of scale.q0 i).xy)) (entry (λ i. (stiffness_of scale.q0 i).yy)) (entry (λ i. (stiffness_of scale.q0 i).ys))

    left-s : whole (pos 8) *ℚ whole most *ℚ rest.s ≡ whole h *ℚ (stress_of m.a y).s
    unfolding ◌/ℚ◌
    left-s = row-left (whole most) (whole h) _ _ m.a.xs m.a.ys m.a.ss u.x u.y u.s _ _ _ e.x e.y e.s (inverse (whole (pos 8))) eighth
        (same-force scale.q0 most h q0-above thick (plies-thick plies) load.nxy) (ap (λ t. t.s) balance)
        (entry (λ i. (stiffness_of scale.q0 i).xs)) (entry (λ i. (stiffness_of scale.q0 i).ys)) (entry (λ i. (stiffness_of scale.q0 i).ss))

    -- its work, by the energy of the wall
    work-left : whole (pos 8) *ℚ whole most *ℚ whole scale.q0 *ℚ twice_energy (off_axis rest) y ≡ whole h *ℚ (whole scale.q0 *ℚ twice_energy (stress_of m.a y) y)
    unfolding ◌-ℚ◌
    work-left =
        solve 8 (λ g q p r s a b c. int (pos 8) ⊗ g ⊗ q ⊗ (p ⊗ a ⊕ r ⊗ b ⊕ s ⊗ c) ≐ q ⊗ (int (pos 8) ⊗ g ⊗ p ⊗ a ⊕ int (pos 8) ⊗ g ⊗ r ⊗ b ⊕ int (pos 8) ⊗ g ⊗ s ⊗ c)) refl
        (whole most) (whole scale.q0) rest.x rest.y rest.s y.x y.y y.s
        ∙ (λ j. whole scale.q0 *ℚ (left-x j *ℚ y.x +ℚ left-y j *ℚ y.y +ℚ left-s j *ℚ y.s))
        ∙ solve 8 (λ h q p r s a b c. q ⊗ (h ⊗ p ⊗ a ⊕ h ⊗ r ⊗ b ⊕ h ⊗ s ⊗ c) ≐ h ⊗ (q ⊗ (p ⊗ a ⊕ r ⊗ b ⊕ s ⊗ c))) refl
        (whole h) (whole scale.q0) (stress_of m.a y).x (stress_of m.a y).y (stress_of m.a y).s y.x y.y y.s

    -- with a thickness that is at most the wall's
    pub work-at_most : (least : ℤ) → least ≤ℤ h → whole scale.floor *ℚ whole least *ℚ strain_squares y ≤ℚ whole (pos 8) *ℚ whole most *ℚ whole scale.q0 *ℚ twice_energy (off_axis rest) y
    unfolding ◌-ℚ◌
    work-at_most least within =
        let floor = weaken (whole_positive (floor-above plies.catalogue numbers)) in
        subst (λ s. whole scale.floor *ℚ whole least *ℚ strain_squares y ≤ℚ s) (sym work-left)
        (at_most (above (whole_at_most within) *ₙ (floor *ₙ squares_above y) +ₙ weaken (whole_positive (plies-thick plies)) *ₙ above (stretching scale.floor scale.q0 q0-above m y (plies-form plies m y none (plies-exact plies))))
        (solve 5 (λ h l f n w. h ⊗ w ⊖ f ⊗ l ⊗ n ≐ (h ⊖ l) ⊗ (f ⊗ n) ⊕ h ⊗ (w ⊖ f ⊗ n)) refl (whole h) (whole least) (whole scale.floor) (strain_squares y) (whole scale.q0 *ℚ twice_energy (stress_of m.a y) y)))
