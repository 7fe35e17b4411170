-- The sums over the plies of a wall that telescope: of their thicknesses, and these with their places and the squares.
use Rattle.std.proofs.Common.{◌≡◌, refl, sym, ◌∙◌, ap, ℤ, pos, neg_ℤ, ◌+ℤ◌, ◌*ℤ◌, List, [], ◌∷◌}
use Rattle.lam_fraction.specs.Fraction.{ℚ, whole, ◌+ℚ◌, ◌-ℚ◌, ◌*ℚ◌, ◌/ℚ◌}
use Rattle.lam_fraction.specs.Sums.{sum_over}
use Rattle.lam_fraction.proofs.Expression.{int, ◌⊕◌, ◌⊖◌, ◌⊗◌, minus}
use Rattle.lam_fraction.proofs.Solver.{◌≐◌}
use Rattle.lam_fraction.proofs.FractionRing.{whole-sum}
use Rattle.lam_fraction.proofs.Rationals.{solve, from₁, same_without_factor, positive_number}
use Rattle.lam_stock.specs.declared.item.Item.{Item}
use Rattle.lam_job.specs.Wall.{Placed, placed_from, placed_plies, wall_thickness}
use Rattle.lam_fraction.proofs.WholeFractions.{whole-opposite}
use Rattle.lam_wall.proofs.Wholes.{whole-one_and_twice}

-- ---- sums that telescope

abbrev pub thickness_of : Placed → ℚ
thickness_of p = whole p.item.lamina.t

abbrev pub with_places : Placed → ℚ
with_places p = whole p.item.lamina.t *ℚ (whole p.inner +ℚ whole p.outer)

abbrev pub with_squares : Placed → ℚ
with_squares p = whole p.item.lamina.t *ℚ (whole p.inner *ℚ whole p.inner +ℚ whole p.inner *ℚ whole p.outer +ℚ whole p.outer *ℚ whole p.outer)

pub thickness_sum : (z : ℤ) (wall : List Item) → sum_over thickness_of (placed_from z wall) ≡ whole (wall_thickness wall)
thickness_sum z [] = refl
thickness_sum z (i ∷ wall) =
    ap (λ s. whole i.lamina.t +ℚ s) (thickness_sum (z +ℤ pos 2 *ℤ i.lamina.t) wall) ∙ sym (whole-sum i.lamina.t (wall_thickness wall))

-- the difference of the squares of the first place a and of the last
abbrev squares_between : ℚ → ℚ → ℚ
squares_between a h = (a +ℚ whole (pos 2) *ℚ h) *ℚ (a +ℚ whole (pos 2) *ℚ h) -ℚ a *ℚ a

abbrev cubes_between : ℚ → ℚ → ℚ
cubes_between a h = (a +ℚ whole (pos 2) *ℚ h) *ℚ (a +ℚ whole (pos 2) *ℚ h) *ℚ (a +ℚ whole (pos 2) *ℚ h) -ℚ a *ℚ a *ℚ a

places_step : (a t h s : ℚ) → whole (pos 2) *ℚ s ≡ squares_between (a +ℚ whole (pos 2) *ℚ t) h
    → whole (pos 2) *ℚ (t *ℚ (a +ℚ (a +ℚ whole (pos 2) *ℚ t)) +ℚ s) ≡ squares_between a (t +ℚ h)
unfolding ◌-ℚ◌ ◌/ℚ◌
places_step a t h s e = from₁ (whole (pos 1)) e (solve 4 (λ a t h s. int (pos 2) ⊗ (t ⊗ (a ⊕ (a ⊕ int (pos 2) ⊗ t)) ⊕ s)
    ≐ ((a ⊕ int (pos 2) ⊗ (t ⊕ h)) ⊗ (a ⊕ int (pos 2) ⊗ (t ⊕ h)) ⊖ a ⊗ a)
    ⊕ int (pos 1) ⊗ (int (pos 2) ⊗ s ⊖ ((a ⊕ int (pos 2) ⊗ t ⊕ int (pos 2) ⊗ h) ⊗ (a ⊕ int (pos 2) ⊗ t ⊕ int (pos 2) ⊗ h) ⊖ (a ⊕ int (pos 2) ⊗ t) ⊗ (a ⊕ int (pos 2) ⊗ t)))) refl a t h s)

squares_step : (a t h s : ℚ) → whole (pos 2) *ℚ s ≡ cubes_between (a +ℚ whole (pos 2) *ℚ t) h
    → whole (pos 2) *ℚ (t *ℚ (a *ℚ a +ℚ a *ℚ (a +ℚ whole (pos 2) *ℚ t) +ℚ (a +ℚ whole (pos 2) *ℚ t) *ℚ (a +ℚ whole (pos 2) *ℚ t)) +ℚ s) ≡ cubes_between a (t +ℚ h)
unfolding ◌-ℚ◌ ◌/ℚ◌
squares_step a t h s e = from₁ (whole (pos 1)) e (solve 4 (λ a t h s.
    int (pos 2) ⊗ (t ⊗ (a ⊗ a ⊕ a ⊗ (a ⊕ int (pos 2) ⊗ t) ⊕ (a ⊕ int (pos 2) ⊗ t) ⊗ (a ⊕ int (pos 2) ⊗ t)) ⊕ s)
    ≐ ((a ⊕ int (pos 2) ⊗ (t ⊕ h)) ⊗ (a ⊕ int (pos 2) ⊗ (t ⊕ h)) ⊗ (a ⊕ int (pos 2) ⊗ (t ⊕ h)) ⊖ a ⊗ a ⊗ a)
    ⊕ int (pos 1) ⊗ (int (pos 2) ⊗ s ⊖ ((a ⊕ int (pos 2) ⊗ t ⊕ int (pos 2) ⊗ h) ⊗ (a ⊕ int (pos 2) ⊗ t ⊕ int (pos 2) ⊗ h) ⊗ (a ⊕ int (pos 2) ⊗ t ⊕ int (pos 2) ⊗ h)
    ⊖ (a ⊕ int (pos 2) ⊗ t) ⊗ (a ⊕ int (pos 2) ⊗ t) ⊗ (a ⊕ int (pos 2) ⊗ t)))) refl a t h s)

pub places_sum : (z : ℤ) (wall : List Item) → whole (pos 2) *ℚ sum_over with_places (placed_from z wall) ≡ squares_between (whole z) (whole (wall_thickness wall))
unfolding ◌-ℚ◌ ◌/ℚ◌
places_sum z [] = solve 1 (λ a. int (pos 2) ⊗ int (pos 0) ≐ (a ⊕ int (pos 2) ⊗ int (pos 0)) ⊗ (a ⊕ int (pos 2) ⊗ int (pos 0)) ⊖ a ⊗ a) refl (whole z)
places_sum z (i ∷ wall) =
    let next = whole-one_and_twice z i.lamina.t in
    let above = sum_over with_places (placed_from (z +ℤ pos 2 *ℤ i.lamina.t) wall) in
    ap (λ b. whole (pos 2) *ℚ (whole i.lamina.t *ℚ (whole z +ℚ b) +ℚ above)) next
    ∙ places_step (whole z) (whole i.lamina.t) (whole (wall_thickness wall)) above
    (places_sum (z +ℤ pos 2 *ℤ i.lamina.t) wall ∙ ap (λ b. squares_between b (whole (wall_thickness wall))) next)
    ∙ ap (λ h. squares_between (whole z) h) (sym (whole-sum i.lamina.t (wall_thickness wall)))

pub squares_sum : (z : ℤ) (wall : List Item) → whole (pos 2) *ℚ sum_over with_squares (placed_from z wall) ≡ cubes_between (whole z) (whole (wall_thickness wall))
unfolding ◌-ℚ◌ ◌/ℚ◌
squares_sum z [] = solve 1 (λ a. int (pos 2) ⊗ int (pos 0)
    ≐ (a ⊕ int (pos 2) ⊗ int (pos 0)) ⊗ (a ⊕ int (pos 2) ⊗ int (pos 0)) ⊗ (a ⊕ int (pos 2) ⊗ int (pos 0)) ⊖ a ⊗ a ⊗ a) refl (whole z)
squares_sum z (i ∷ wall) =
    let next = whole-one_and_twice z i.lamina.t in
    let above = sum_over with_squares (placed_from (z +ℤ pos 2 *ℤ i.lamina.t) wall) in
    ap (λ b. whole (pos 2) *ℚ (whole i.lamina.t *ℚ (whole z *ℚ whole z +ℚ whole z *ℚ b +ℚ b *ℚ b) +ℚ above)) next
    ∙ squares_step (whole z) (whole i.lamina.t) (whole (wall_thickness wall)) above
    (squares_sum (z +ℤ pos 2 *ℤ i.lamina.t) wall ∙ ap (λ b. cubes_between b (whole (wall_thickness wall))) next)
    ∙ ap (λ h. cubes_between (whole z) h) (sym (whole-sum i.lamina.t (wall_thickness wall)))

-- ---- over a whole wall

-- a wall lies as far inwards of its mid-plane as outwards
pub wall_places_sum : (wall : List Item) → sum_over with_places (placed_plies wall) ≡ whole (pos 0)
unfolding ◌-ℚ◌ ◌/ℚ◌
wall_places_sum wall = same_without_factor (whole (pos 2)) (positive_number 1)
    (places_sum (neg_ℤ (wall_thickness wall)) wall
    ∙ ap (λ a. squares_between a (whole (wall_thickness wall))) (whole-opposite (wall_thickness wall))
    ∙ solve 1 (λ h. (minus h ⊕ int (pos 2) ⊗ h) ⊗ (minus h ⊕ int (pos 2) ⊗ h) ⊖ minus h ⊗ minus h ≐ int (pos 2) ⊗ int (pos 0)) refl (whole (wall_thickness wall)))

pub wall_squares_sum : (wall : List Item)
    → sum_over with_squares (placed_plies wall) ≡ whole (wall_thickness wall) *ℚ whole (wall_thickness wall) *ℚ whole (wall_thickness wall)
unfolding ◌-ℚ◌ ◌/ℚ◌
wall_squares_sum wall = same_without_factor (whole (pos 2)) (positive_number 1)
    (squares_sum (neg_ℤ (wall_thickness wall)) wall
    ∙ ap (λ a. cubes_between a (whole (wall_thickness wall))) (whole-opposite (wall_thickness wall))
    ∙ solve 1 (λ h. (minus h ⊕ int (pos 2) ⊗ h) ⊗ (minus h ⊕ int (pos 2) ⊗ h) ⊗ (minus h ⊕ int (pos 2) ⊗ h) ⊖ minus h ⊗ minus h ⊗ minus h
    ≐ int (pos 2) ⊗ (h ⊗ h ⊗ h)) refl (whole (wall_thickness wall)))
