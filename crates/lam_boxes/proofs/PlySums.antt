-- Sums over the plies of a wall by their shares of a thickness, as fractions: of a completion they are those of the fixed
-- plies and of the plies at the open places.
use Rattle.std.proofs.Common.{◌≡◌, refl, sym, ◌∙◌, ap, ℤ, pos, ◌+ℤ◌, ◌*ℤ◌, ◌<◌, ◌<ℤ◌, List, [], ◌∷◌, ◌++◌, length, All, arith}
use Rattle.std.proofs.lemmas.Int.{ints}
use Rattle.std.proofs.lemmas.List.Elements.{All-head, All-tail}
use Rattle.lam_fraction.specs.Fraction.{ℚ, whole, fraction, ◌+ℚ◌, ◌-ℚ◌, ◌*ℚ◌, ◌≤ℚ◌}
use Rattle.lam_fraction.specs.Sums.{sum_over}
use Rattle.lam_fraction.proofs.Expression.{int, ◌⊕◌, ◌⊖◌, ◌⊗◌}
use Rattle.lam_fraction.proofs.Solver.{◌≐◌}
use Rattle.lam_fraction.proofs.FractionBounds.{fraction-times}
use Rattle.lam_fraction.proofs.FractionSums.{of_each, sum-append, sum-same, sum-times_right}
use Rattle.lam_fraction.proofs.Rationals.{solve, from₁, above, at_most, reflexive, ◌+ₙ◌}
use Rattle.lam_fraction.proofs.WholeFractions.{natural-sum}
use Rattle.lam_stock.specs.declared.item.Item.{Item}
use Rattle.lam_stock.specs.declared.item.ItemNo.{ItemNo}
use Rattle.lam_job.specs.JobData.{JobData}
use Rattle.lam_job.specs.Partial.{Partial, Completes, fixed_plies, open_places}
use Rattle.lam_job.specs.Schedule.{items_of}
use Rattle.lam_job.specs.Wall.{placed_from, wall_thickness}
use Rattle.lam_job.proofs.Listed.{items_of-append, items_of-length}
use Rattle.lam_job.proofs.Places.{thickness-append}
use Rattle.lam_rules.proofs.Parts.{mirror_images, fixed_in_parts, completion_in_parts}

-- ---- over plies in their places

pub placed-sum : (f : Item → ℚ) (z : ℤ) (items : List Item) → sum_over (λ p. f p.item) (placed_from z items) ≡ sum_over f items
placed-sum f z [] = refl
placed-sum f z (i ∷ rest) = ap (λ s. f i +ℚ s) (placed-sum f (z +ℤ pos 2 *ℤ i.lamina.t) rest)

-- ---- by shares of a thickness h

abbrev pub shares : ℤ → (Item → ℚ) → List Item → ℚ
shares h g items = sum_over (λ i. fraction i.lamina.t h *ℚ g i) items

-- by thicknesses themselves
abbrev pub layers : (Item → ℚ) → List Item → ℚ
layers g items = sum_over (λ i. whole i.lamina.t *ℚ g i) items

layer : (h : ℤ) → pos 0 <ℤ h → (g : Item → ℚ) (i : Item) → fraction i.lamina.t h *ℚ g i *ℚ whole h ≡ whole i.lamina.t *ℚ g i
unfolding ◌-ℚ◌
layer h above g i = from₁ (g i) (fraction-times i.lamina.t h above)
    (solve 4 (λ f h t g. f ⊗ g ⊗ h ≐ t ⊗ g ⊕ g ⊗ (f ⊗ h ⊖ t)) refl (fraction i.lamina.t h) (whole h) (whole i.lamina.t) (g i))

pub shares-layers : (h : ℤ) → pos 0 <ℤ h → (g : Item → ℚ) (items : List Item) → shares h g items *ℚ whole h ≡ layers g items
shares-layers h above g items =
    sym (sum-times_right (whole h) (λ i. fraction i.lamina.t h *ℚ g i) items)
    ∙ sum-same (λ i. fraction i.lamina.t h *ℚ g i *ℚ whole h) (λ i. whole i.lamina.t *ℚ g i) items
    (of_each (λ i. fraction i.lamina.t h *ℚ g i *ℚ whole h ≡ whole i.lamina.t *ℚ g i) items (λ i. layer h above g i))

-- ---- of members that lie between two numbers

zero-least : (x : ℚ) → whole (pos 0) -ℚ whole (pos 0) *ℚ x ≡ whole (pos 0)
unfolding ◌-ℚ◌
zero-least x = solve 1 (λ x. int (pos 0) ⊖ int (pos 0) ⊗ x ≐ int (pos 0)) refl x

zero-most : (x : ℚ) → whole (pos 0) *ℚ x -ℚ whole (pos 0) ≡ whole (pos 0)
unfolding ◌-ℚ◌
zero-most x = solve 1 (λ x. int (pos 0) ⊗ x ⊖ int (pos 0) ≐ int (pos 0)) refl x

more-least : (low a s m k : ℚ) → m ≡ whole (pos 1) +ℚ k → a +ℚ s -ℚ m *ℚ low ≡ (a -ℚ low) +ℚ (s -ℚ k *ℚ low)
unfolding ◌-ℚ◌
more-least low a s m k e = ap (λ m. a +ℚ s -ℚ m *ℚ low) e ∙ solve 4 (λ l a s k. a ⊕ s ⊖ (int (pos 1) ⊕ k) ⊗ l ≐ (a ⊖ l) ⊕ (s ⊖ k ⊗ l)) refl low a s k

more-most : (high a s m k : ℚ) → m ≡ whole (pos 1) +ℚ k → m *ℚ high -ℚ (a +ℚ s) ≡ (high -ℚ a) +ℚ (k *ℚ high -ℚ s)
unfolding ◌-ℚ◌
more-most high a s m k e = ap (λ m. m *ℚ high -ℚ (a +ℚ s)) e ∙ solve 4 (λ h a s k. (int (pos 1) ⊕ k) ⊗ h ⊖ (a ⊕ s) ≐ (h ⊖ a) ⊕ (k ⊗ h ⊖ s)) refl high a s k

pub between-sums : (low high : ℚ) (f : Item → ℚ) (items : List Item) → All (λ i. (low ≤ℚ f i) × (f i ≤ℚ high)) items
    → (whole (pos (length items)) *ℚ low ≤ℚ sum_over f items) × (sum_over f items ≤ℚ whole (pos (length items)) *ℚ high)
between-sums low high f [] all = (at_most (reflexive (whole (pos 0))) (zero-least low), at_most (reflexive (whole (pos 0))) (zero-most high))
between-sums low high f (i ∷ rest) all =
    let first : (low ≤ℚ f i) × (f i ≤ℚ high) = All-head (λ j. (low ≤ℚ f j) × (f j ≤ℚ high)) i rest all in
    let more = between-sums low high f rest (All-tail (λ j. (low ≤ℚ f j) × (f j ≤ℚ high)) i rest all) in
    let count : whole (pos (length (i ∷ rest))) ≡ whole (pos 1) +ℚ whole (pos (length rest)) = ap (λ m. whole (pos m)) (omega arith) ∙ natural-sum 1 (length rest) in (
      at_most (above first.0 +ₙ above more.0) (more-least low (f i) (sum_over f rest) (whole (pos (length (i ∷ rest)))) (whole (pos (length rest))) count),
      at_most (above first.1 +ₙ above more.1) (more-most high (f i) (sum_over f rest) (whole (pos (length (i ∷ rest)))) (whole (pos (length rest))) count),
    )

-- ---- of a completion

-- a completion is the fixed plies, with others at the open places
pub record Filled (stock : List Item) (job : JobData) (p : Partial) (listed : List ItemNo) : Type 0 where
  pub between : List ItemNo
  pub known : All (λ ply. ply.0 < length stock) between
  pub long : length (items_of stock between) ≡ open_places job p
  pub sums : (f : Item → ℚ) → sum_over f (items_of stock listed) ≡ sum_over f (items_of stock (fixed_plies job p)) +ℚ sum_over f (items_of stock between)
  pub thickness : wall_thickness (items_of stock listed) ≡ wall_thickness (items_of stock (fixed_plies job p)) +ℤ wall_thickness (items_of stock between)

pub filled : (stock : List Item) (job : JobData) (p : Partial) (listed : List ItemNo) → Completes stock job p listed → Filled stock job p listed
filled stock job p listed c =
    let images = mirror_images job.rules.symmetric p in
    let i = completion_in_parts stock job p listed c in
    let known = i.known (length stock) c.sequence.known in
    let whole_list : items_of stock listed ≡ items_of stock p.prefix ++ (items_of stock i.between ++ items_of stock images) =
    ap (items_of stock) i.parts ∙ items_of-append stock p.prefix (i.between ++ images) ∙ ap (λ l. items_of stock p.prefix ++ l) (items_of-append stock i.between images) in
    let fixed_list : items_of stock (fixed_plies job p) ≡ items_of stock p.prefix ++ items_of stock images =
    ap (items_of stock) (fixed_in_parts job p) ∙ items_of-append stock p.prefix images in
    record {
      between = i.between;
      known = known;
      long = items_of-length stock i.between known ∙ i.long;
      sums = λ f.
          let a = sum_over f (items_of stock p.prefix) in
          let b = sum_over f (items_of stock i.between) in
          let d = sum_over f (items_of stock images) in
          ap (sum_over f) whole_list ∙ sum-append f (items_of stock p.prefix) (items_of stock i.between ++ items_of stock images)
          ∙ ap (λ s. a +ℚ s) (sum-append f (items_of stock i.between) (items_of stock images))
          ∙ solve 3 (λ a b d. a ⊕ (b ⊕ d) ≐ (a ⊕ d) ⊕ b) refl a b d
          ∙ ap (λ s. s +ℚ b) (sym (ap (sum_over f) fixed_list ∙ sum-append f (items_of stock p.prefix) (items_of stock images)));
      thickness =
          let all = ap wall_thickness whole_list ∙ thickness-append (items_of stock p.prefix) (items_of stock i.between ++ items_of stock images) in
          let rest = thickness-append (items_of stock i.between) (items_of stock images) in
          let fixed = ap wall_thickness fixed_list ∙ thickness-append (items_of stock p.prefix) (items_of stock images) in
          omega (arith, ints, all, rest, fixed);
    }
