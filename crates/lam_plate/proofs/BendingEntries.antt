-- The entries of D that the buckling of a plate takes: D11 and D66 are not negative, D66 is at most a sixth, D22 is at most
-- 512 times D11, and the form of D at two shares lies between the floor over q0 and 1, each times a third of their squares.
use Rattle.std.proofs.Common.{◌≡◌, refl, sym, ◌∙◌, ap, subst, subst₂, ℤ, pos, ◌*ℤ◌, ◌≤ℤ◌, ◌<ℤ◌, List, arith}
use Rattle.std.proofs.lemmas.Int.{ints}
use Rattle.lam_fraction.specs.Fraction.{ℚ, whole, fraction, inverse, ◌+ℚ◌, ◌*ℚ◌, ◌/ℚ◌, ◌≤ℚ◌, ◌-ℚ◌, opposite}
use Rattle.lam_fraction.proofs.Expression.{int, ◌⊕◌, ◌⊖◌, ◌⊗◌, minus}
use Rattle.lam_fraction.proofs.Solver.{◌≐◌}
use Rattle.lam_fraction.proofs.Rationals.{solve, from₁, from₂, fraction_times, above, square, number, positive_number, weaken, at_most, at_most_over, transitive, inverse_positive, ◌+ₙ◌, ◌*ₙ◌}
use Rattle.lam_fraction.proofs.FractionBounds.{whole_positive, fraction-times}
use Rattle.lam_fraction.proofs.WholeFractions.{whole_at_most, fraction_positive, inverse-whole}
use Rattle.lam_fraction.proofs.FractionRing.{whole-product}
use Rattle.lam_stock.specs.declared.item.Item.{Item}
use Rattle.lam_stock.specs.declared.item.ItemNo.{ItemNo}
use Rattle.lam_stock.specs.declared.scale.Scale.{Scale}
use Rattle.lam_stock.specs.PlyLaw.{OffAxis}
use Rattle.lam_stock.proofs.ScaleFacts.{scale-within}
use Rattle.lam_job.specs.Plate.{at_rest}
use Rattle.lam_job.specs.Schedule.{items_of}
use Rattle.lam_lamina.specs.declared.stiffness.Sym3.{Sym3}
use Rattle.lam_wall.specs.Matrices.{Matrices}
use Rattle.lam_wall.specs.MatrixLaw.{AreMatrices}
use Rattle.lam_wall.specs.Energy.{mean_squares}
use Rattle.lam_wall.specs.QuadraticForm.{quadratic_form}
use Rattle.lam_wall.specs.Assembled.{ArePlies}
use Rattle.lam_wall.proofs.CatalogueWalls.{plies-form}

abbrev zero : ℚ
zero = whole (pos 0)

abbrev pub third : ℚ
third = inverse (whole (pos 3))

-- curvatures x and y, and no twist; and a twist of 1
abbrev plane : ℚ → ℚ → OffAxis
plane x y = record { x = x; y = y; s = zero }

abbrev twist : OffAxis
twist = record { x = zero; y = zero; s = whole (pos 1) }

abbrev pub plane_form : Sym3 ℚ → ℚ → ℚ → ℚ
plane_form d x y = d.xx *ℚ (x *ℚ x) +ℚ whole (pos 2) *ℚ d.xy *ℚ (x *ℚ y) +ℚ d.yy *ℚ (y *ℚ y)

form_sums : (f g h a b c e i j k l m n o x y : ℚ)
    → (f *ℚ zero +ℚ g *ℚ zero +ℚ h *ℚ zero)
    +ℚ (((a *ℚ zero +ℚ b *ℚ zero +ℚ c *ℚ zero) +ℚ (l *ℚ x +ℚ m *ℚ y +ℚ j *ℚ zero)) *ℚ x
    +ℚ ((b *ℚ zero +ℚ e *ℚ zero +ℚ i *ℚ zero) +ℚ (m *ℚ x +ℚ n *ℚ y +ℚ k *ℚ zero)) *ℚ y
    +ℚ o *ℚ zero)
    ≡ l *ℚ (x *ℚ x) +ℚ whole (pos 2) *ℚ m *ℚ (x *ℚ y) +ℚ n *ℚ (y *ℚ y)
unfolding ◌-ℚ◌
form_sums = solve 16 (λ f g h a b c e i j k l m n o x y.
    (f ⊗ int (pos 0) ⊕ g ⊗ int (pos 0) ⊕ h ⊗ int (pos 0))
    ⊕ (((a ⊗ int (pos 0) ⊕ b ⊗ int (pos 0) ⊕ c ⊗ int (pos 0)) ⊕ (l ⊗ x ⊕ m ⊗ y ⊕ j ⊗ int (pos 0))) ⊗ x
    ⊕ ((b ⊗ int (pos 0) ⊕ e ⊗ int (pos 0) ⊕ i ⊗ int (pos 0)) ⊕ (m ⊗ x ⊕ n ⊗ y ⊕ k ⊗ int (pos 0))) ⊗ y
    ⊕ o ⊗ int (pos 0))
    ≐ l ⊗ (x ⊗ x) ⊕ int (pos 2) ⊗ m ⊗ (x ⊗ y) ⊕ n ⊗ (y ⊗ y)) refl

form-is : (m : Matrices) (x y : ℚ) → quadratic_form m at_rest (plane x y) ≡ plane_form m.d x y
form-is m x y = form_sums _ _ _ m.b.xx m.b.xy m.b.xs m.b.yy m.b.ys m.d.xs m.d.ys m.d.xx m.d.xy m.d.yy _ x y

twist_sums : (f g h u v a b c l m n : ℚ)
    → (f *ℚ zero +ℚ g *ℚ zero +ℚ h *ℚ zero)
    +ℚ (u *ℚ zero +ℚ v *ℚ zero +ℚ ((a *ℚ zero +ℚ b *ℚ zero +ℚ c *ℚ zero) +ℚ (l *ℚ zero +ℚ m *ℚ zero +ℚ n *ℚ whole (pos 1))) *ℚ whole (pos 1))
    ≡ n
unfolding ◌-ℚ◌
twist_sums = solve 11 (λ f g h u v a b c l m n.
    (f ⊗ int (pos 0) ⊕ g ⊗ int (pos 0) ⊕ h ⊗ int (pos 0))
    ⊕ (u ⊗ int (pos 0) ⊕ v ⊗ int (pos 0) ⊕ ((a ⊗ int (pos 0) ⊕ b ⊗ int (pos 0) ⊕ c ⊗ int (pos 0)) ⊕ (l ⊗ int (pos 0) ⊕ m ⊗ int (pos 0) ⊕ n ⊗ int (pos 1))) ⊗ int (pos 1))
    ≐ n) refl

twist-is : (m : Matrices) → quadratic_form m at_rest twist ≡ m.d.ss
twist-is m = twist_sums _ _ _ _ _ m.b.xs m.b.ys m.b.ss m.d.xs m.d.ys m.d.ss

squares-is : (x y : ℚ) → mean_squares at_rest (plane x y) ≡ (x *ℚ x +ℚ y *ℚ y) *ℚ third
unfolding ◌-ℚ◌ ◌/ℚ◌
squares-is x y = solve 4 (λ h x y i.
    (int (pos 0) ⊗ int (pos 0) ⊕ int (pos 0) ⊗ int (pos 0) ⊕ h ⊗ (int (pos 0) ⊗ int (pos 0))) ⊕ (x ⊗ x ⊕ y ⊗ y ⊕ h ⊗ (int (pos 0) ⊗ int (pos 0))) ⊗ i
    ≐ (x ⊗ x ⊕ y ⊗ y) ⊗ i) refl (fraction (pos 1) (pos 2)) x y third

pub third_above : whole (pos 0) ≤ℚ third
third_above = weaken (inverse_positive (positive_number 2))

mean_above : (x y : ℚ) → whole (pos 0) ≤ℚ (x *ℚ x +ℚ y *ℚ y) *ℚ third
mean_above x y = (square x +ₙ square y) *ₙ third_above

half_above : whole (pos 0) ≤ℚ fraction (pos 1) (pos 2)
half_above = weaken (fraction_positive (pos 1) (pos 2) (omega (arith, ints)) (omega (arith, ints)))

twist_squares_above : whole (pos 0) ≤ℚ mean_squares at_rest twist
unfolding ◌/ℚ◌
twist_squares_above = (square zero +ₙ square zero +ₙ half_above *ₙ square zero) +ₙ (square zero +ₙ square zero +ₙ half_above *ₙ square (whole (pos 1))) *ₙ third_above

-- of a twist of 1 it is a sixth
twist_sixth : whole (pos 6) *ℚ mean_squares at_rest twist ≡ whole (pos 1)
unfolding ◌-ℚ◌ ◌/ℚ◌
twist_sixth =
    from₂ (whole (pos 2) *ℚ fraction (pos 1) (pos 2)) (inverse-whole (pos 3) (omega (arith, ints))) (whole (pos 1)) (fraction_times (pos 1) (pos 2) (omega (arith, ints)))
    (solve 2 (λ h i. int (pos 6) ⊗ ((int (pos 0) ⊗ int (pos 0) ⊕ int (pos 0) ⊗ int (pos 0) ⊕ h ⊗ (int (pos 0) ⊗ int (pos 0))) ⊕ (int (pos 0) ⊗ int (pos 0) ⊕ int (pos 0) ⊗ int (pos 0) ⊕ h ⊗ (int (pos 1) ⊗ int (pos 1))) ⊗ i)
    ≐ int (pos 1) ⊕ (int (pos 2) ⊗ h) ⊗ (int (pos 3) ⊗ i ⊖ int (pos 1)) ⊕ int (pos 1) ⊗ (int (pos 2) ⊗ h ⊖ int (pos 1))) refl (fraction (pos 1) (pos 2)) third)

sixth_most : (n s : ℚ) → n ≤ℚ s → whole (pos 6) *ℚ s ≡ whole (pos 1) → whole (pos 6) *ℚ n ≤ℚ whole (pos 1)
unfolding ◌-ℚ◌
sixth_most n s h e = at_most (number 6 *ₙ above h) (from₁ (opposite (whole (pos 1))) e (solve 2 (λ n s. int (pos 1) ⊖ int (pos 6) ⊗ n ≐ int (pos 6) ⊗ (s ⊖ n) ⊕ minus (int (pos 1)) ⊗ (int (pos 6) ⊗ s ⊖ int (pos 1))) refl n s))

-- one part in 512 of q0 is at most the floor
part_of_floor : (floor q0 : ℤ) → pos 0 <ℤ q0 → q0 ≤ℤ (pos 512 *ℤ floor) → whole (pos 1) ≤ℚ whole (pos 512) *ℚ fraction floor q0
unfolding ◌-ℚ◌
part_of_floor floor q0 p h =
    at_most_over (whole_positive p) (above (whole_at_most h))
    (from₁ (whole (pos 512)) (fraction-times floor q0 p)
    (solve 3 (λ f q k. q ⊗ (int (pos 512) ⊗ f ⊖ int (pos 1)) ≐ (int (pos 512) ⊗ k ⊖ q) ⊕ int (pos 512) ⊗ (f ⊗ q ⊖ k)) refl (fraction floor q0) (whole q0) (whole floor))
    ∙ ap (λ s. s -ℚ whole q0) (sym (whole-product (pos 512) floor)))

-- D22 by the upper bound, D11 by the lower one
most_of_least : (f i d e : ℚ) → whole (pos 0) ≤ℚ i → whole (pos 1) ≤ℚ whole (pos 512) *ℚ f → f *ℚ i ≤ℚ d → e ≤ℚ i → e ≤ℚ whole (pos 512) *ℚ d
unfolding ◌-ℚ◌
most_of_least f i d e sign part least most =
    at_most (above most +ₙ i_part +ₙ number 512 *ₙ above least)
    (solve 4 (λ f i d e. int (pos 512) ⊗ d ⊖ e ≐ (i ⊖ e) ⊕ (int (pos 512) ⊗ f ⊖ int (pos 1)) ⊗ i ⊕ int (pos 512) ⊗ (d ⊖ f ⊗ i)) refl f i d e)
  where
    i_part : whole (pos 0) ≤ℚ (whole (pos 512) *ℚ f -ℚ whole (pos 1)) *ℚ i
    i_part = above part *ₙ sign

module _ {scale : Scale} {stock : List Item} {numbers : List ItemNo} (k : ArePlies scale stock numbers) (m : Matrices) (are : AreMatrices scale.q0 (items_of stock numbers) m) where
  abbrev pub part : ℚ
  part = fraction scale.floor scale.q0

  q0_above : pos 0 <ℤ scale.q0
  q0_above = let least = (scale-within stock stock scale k.catalogue refl).0 in omega (arith, ints, least)

  part_above : whole (pos 0) ≤ℚ part
  part_above = weaken (fraction_positive scale.floor scale.q0 (let f = k.catalogue.floor in omega (arith, ints, f)) q0_above)

  pub plane-between : (x y : ℚ) → (part *ℚ ((x *ℚ x +ℚ y *ℚ y) *ℚ third) ≤ℚ plane_form m.d x y) × (plane_form m.d x y ≤ℚ (x *ℚ x +ℚ y *ℚ y) *ℚ third)
  plane-between x y =
      let b = plies-form k m at_rest (plane x y) are in (
        subst₂ (λ s q. part *ℚ s ≤ℚ q) (squares-is x y) (form-is m x y) b.0,
        subst₂ (λ s q. q ≤ℚ s) (squares-is x y) (form-is m x y) b.1,
      )

  pub plane-above : (x y : ℚ) → whole (pos 0) ≤ℚ plane_form m.d x y
  plane-above x y = transitive (part_above *ₙ mean_above x y) (plane-between x y).0

  pub twist-above : whole (pos 0) ≤ℚ m.d.ss
  twist-above = subst (λ q. whole (pos 0) ≤ℚ q) (twist-is m) (transitive (part_above *ₙ twist_squares_above) (plies-form k m at_rest twist are).0)

  pub twist-most : whole (pos 6) *ℚ m.d.ss ≤ℚ whole (pos 1)
  twist-most = sixth_most m.d.ss (mean_squares at_rest twist) (subst (λ q. q ≤ℚ mean_squares at_rest twist) (twist-is m) (plies-form k m at_rest twist are).1) twist_sixth

  pub part-least : whole (pos 1) ≤ℚ whole (pos 512) *ℚ part
  part-least = part_of_floor scale.floor scale.q0 q0_above k.catalogue.spread

  at_unit_x : (a b c i : ℚ) → (a *ℚ (whole (pos 1) *ℚ whole (pos 1)) +ℚ whole (pos 2) *ℚ b *ℚ (whole (pos 1) *ℚ zero) +ℚ c *ℚ (zero *ℚ zero) ≡ a) × ((whole (pos 1) *ℚ whole (pos 1) +ℚ zero *ℚ zero) *ℚ i ≡ i)
  unfolding ◌-ℚ◌
  at_unit_x a b c i = (
    solve 3 (λ a b c. a ⊗ (int (pos 1) ⊗ int (pos 1)) ⊕ int (pos 2) ⊗ b ⊗ (int (pos 1) ⊗ int (pos 0)) ⊕ c ⊗ (int (pos 0) ⊗ int (pos 0)) ≐ a) refl a b c,
    solve 1 (λ i. (int (pos 1) ⊗ int (pos 1) ⊕ int (pos 0) ⊗ int (pos 0)) ⊗ i ≐ i) refl i,
  )

  at_unit_y : (a b c i : ℚ) → (a *ℚ (zero *ℚ zero) +ℚ whole (pos 2) *ℚ b *ℚ (zero *ℚ whole (pos 1)) +ℚ c *ℚ (whole (pos 1) *ℚ whole (pos 1)) ≡ c) × ((zero *ℚ zero +ℚ whole (pos 1) *ℚ whole (pos 1)) *ℚ i ≡ i)
  unfolding ◌-ℚ◌
  at_unit_y a b c i = (
    solve 3 (λ a b c. a ⊗ (int (pos 0) ⊗ int (pos 0)) ⊕ int (pos 2) ⊗ b ⊗ (int (pos 0) ⊗ int (pos 1)) ⊕ c ⊗ (int (pos 1) ⊗ int (pos 1)) ≐ c) refl a b c,
    solve 1 (λ i. (int (pos 0) ⊗ int (pos 0) ⊕ int (pos 1) ⊗ int (pos 1)) ⊗ i ≐ i) refl i,
  )

  along-least : part *ℚ third ≤ℚ m.d.xx
  along-least =
      let e = at_unit_x m.d.xx m.d.xy m.d.yy third in
      subst₂ (λ s q. part *ℚ s ≤ℚ q) e.1 e.0 (plane-between (whole (pos 1)) zero).0

  across-most : m.d.yy ≤ℚ third
  across-most =
      let e = at_unit_y m.d.xx m.d.xy m.d.yy third in
      subst₂ (λ s q. q ≤ℚ s) e.1 e.0 (plane-between zero (whole (pos 1))).1

  pub along-above : whole (pos 0) ≤ℚ m.d.xx
  along-above = transitive (part_above *ₙ third_above) along-least

  pub across-times : m.d.yy ≤ℚ whole (pos 512) *ℚ m.d.xx
  across-times = most_of_least part third m.d.xx m.d.yy third_above part-least along-least across-most
