-- No completion is thicker than the fixed plies with the thickest item at each open place.
use Rattle.std.proofs.Common.{◌≡◌, sym, ◌∙◌, ap, subst, ℕ, suc, ◌+◌, ◌<◌, ℤ, pos, ◌+ℤ◌, ◌*ℤ◌, ◌≤ℤ◌, List, [], ◌∷◌, ◌++◌, length, take, get_or, fold, All, Bool, true, false, if◌then◌else◌, to_z, of_z, w64, arith}
use Rattle.std.specs.Int.{int_max}
use Rattle.std.proofs.lemmas.Int.{ints, int_max_is, to_z-of_z}
use Rattle.std.proofs.lemmas.List.Sums.{fold_more}
use Rattle.std.proofs.lemmas.List.Elements.{All-head, All-tail, All-cons, All-nil}
use Rattle.lam_stock.specs.declared.item.Item.{Item}
use Rattle.lam_stock.specs.declared.item.ItemNo.{ItemNo}
use Rattle.lam_stock.specs.Stock.{IsKnown, WithinLimits}
use Rattle.lam_job.specs.JobData.{JobData}
use Rattle.lam_job.specs.Schedule.{items_of, wall_of}
use Rattle.lam_job.specs.Wall.{wall_thickness}
use Rattle.lam_job.specs.Partial.{Partial, Completes, fixed_plies, open_places, thickest, greatest_thickness}
use Rattle.lam_job.proofs.Listed.{items_of-append, items_of-all, items_of-length}
use Rattle.lam_job.proofs.Places.{thickness-append}
use Rattle.lam_job.proofs.ThicknessSteps.{small_fits}
use Rattle.lam_rules.proofs.Parts.{mirror_images, fixed_in_parts, completion_in_parts}

-- ---- the thickest item

abbrev greatest : ℤ → List Item → ℤ
greatest z stock = fold (λ most i. int_max most i.lamina.t) z stock

not_below : (z : ℤ) (stock : List Item) → z ≤ℤ greatest z stock
not_below z [] = omega (arith, ints)
not_below z (i ∷ rest) =
    let h = not_below (int_max z i.lamina.t) rest in
    let m = int_max_is z i.lamina.t in
    omega (arith, ints, h, m)

none_above : (z : ℤ) (stock : List Item) → All (λ i. i.lamina.t ≤ℤ greatest z stock) stock
none_above z [] = All-nil (λ (i : Item). i.lamina.t ≤ℤ z)
none_above z (i ∷ rest) =
    let most = int_max z i.lamina.t in
    let h = not_below most rest in
    let m = int_max_is z i.lamina.t in
    All-cons (λ (other : Item). other.lamina.t ≤ℤ greatest most rest) i rest (omega (arith, ints, h, m)) (none_above most rest)

pub none_is_thicker : (stock : List Item) → All (λ i. i.lamina.t ≤ℤ thickest stock) stock
none_is_thicker stock = none_above (pos 0) stock

-- ---- sums

one_more : (n : ℕ) (t : ℤ) → pos (suc n) *ℤ t ≡ t +ℤ (pos n *ℤ t)
one_more n t = omega (arith, ints)

thick_at_most : (t : ℤ) (items : List Item) → All (λ i. i.lamina.t ≤ℤ t) items → wall_thickness items ≤ℤ (pos (length items) *ℤ t)
thick_at_most t [] all = omega (arith, ints)
thick_at_most t (i ∷ items) all =
    let first = All-head (λ (i : Item). i.lamina.t ≤ℤ t) i items all in
    let rest = thick_at_most t items (All-tail (λ (i : Item). i.lamina.t ≤ℤ t) i items all) in
    let more = one_more (length items) t in
    omega (arith, ints, first, rest, more)

module _ (stock : List Item) where
  abbrev thick : List ItemNo → ℤ
  thick listed = wall_thickness (items_of stock listed)

  pub thick-append : (a b : List ItemNo) → thick (a ++ b) ≡ thick a +ℤ thick b
  thick-append a b = ap wall_thickness (items_of-append stock a b) ∙ thickness-append (items_of stock a) (items_of stock b)

  -- the share of the liner in the thickness of the wall
  abbrev pub liner_share : Bool → List ItemNo → ℤ
  liner_share true liner = wall_thickness (items_of stock liner)
  liner_share false liner = pos 0

  with_liner : (in_wall : Bool) (liner listed : List ItemNo)
      → wall_thickness (if in_wall then items_of stock (liner ++ listed) else items_of stock listed) ≡ liner_share in_wall liner +ℤ thick listed
  with_liner true liner listed = thick-append liner listed
  with_liner false liner listed = omega (arith, ints)

  pub wall_is : (job : JobData) (listed : List ItemNo) → wall_thickness (wall_of stock job listed) ≡ liner_share job.liner_in_wall job.liner +ℤ wall_thickness (items_of stock listed)
  wall_is job listed = with_liner job.liner_in_wall job.liner listed

  open_at_most : (plies : List ItemNo) → IsKnown stock plies → thick plies ≤ℤ (pos (length plies) *ℤ thickest stock)
  open_at_most plies known =
      subst (λ n. thick plies ≤ℤ (pos n *ℤ thickest stock)) (items_of-length stock plies known)
      (thick_at_most (thickest stock) (items_of stock plies) (items_of-all stock (λ i. i.lamina.t ≤ℤ thickest stock) (none_is_thicker stock) plies))

  pub thick_completion : (job : JobData) (p : Partial) (listed : List ItemNo) → Completes stock job p listed
      → wall_thickness (wall_of stock job listed) ≤ℤ greatest_thickness stock job p
  thick_completion job p listed c =
      let images = mirror_images job.rules.symmetric p in
      let i = completion_in_parts stock job p listed c in
      let own : thick listed ≡ thick p.prefix +ℤ (thick i.between +ℤ thick images)
      = ap thick i.parts ∙ thick-append p.prefix (i.between ++ images) ∙ ap (λ t. thick p.prefix +ℤ t) (thick-append i.between images) in
      let fixed : thick (fixed_plies job p) ≡ thick p.prefix +ℤ thick images
      = ap thick (fixed_in_parts job p) ∙ thick-append p.prefix images in
      let most : thick i.between ≤ℤ (pos (open_places job p) *ℤ thickest stock)
      = subst (λ n. thick i.between ≤ℤ (pos n *ℤ thickest stock)) i.long
      (open_at_most i.between (i.known (length stock) c.sequence.known)) in
      let whole = wall_is job listed in
      let floor = wall_is job (fixed_plies job p) in
      omega (arith, ints, own, fixed, most, whole, floor)

-- ---- sums in machine numbers

pub small_sum : (liner own : ℤ) → pos 0 ≤ℤ liner → liner ≤ℤ pos 1280000 → pos 0 ≤ℤ own → own ≤ℤ pos 1280000
    → to_z w64 (of_z w64 (to_z w64 (of_z w64 liner) +ℤ to_z w64 (of_z w64 own))) ≡ liner +ℤ own
small_sum liner own a b c d =
    let first : to_z w64 (of_z w64 liner) ≡ liner = to_z-of_z w64 liner (small_fits liner (omega (arith, ints)) (omega (arith, ints))) in
    let second : to_z w64 (of_z w64 own) ≡ own = to_z-of_z w64 own (small_fits own (omega (arith, ints)) (omega (arith, ints))) in
    let both : to_z w64 (of_z w64 (liner +ℤ own)) ≡ liner +ℤ own = to_z-of_z w64 (liner +ℤ own) (small_fits (liner +ℤ own) (omega (arith, ints)) (omega (arith, ints))) in
    ap (λ (x : ℤ). to_z w64 (of_z w64 (x +ℤ to_z w64 (of_z w64 own)))) first ∙ ap (λ (y : ℤ). to_z w64 (of_z w64 (liner +ℤ y))) second ∙ both

pub thick_in_wall : (stock : List Item) (job : JobData) (listed : List ItemNo) (liner own : ℤ) → job.liner_in_wall ≡ true
    → liner ≡ wall_thickness (items_of stock job.liner) → own ≡ wall_thickness (items_of stock listed)
    → liner +ℤ own ≡ wall_thickness (wall_of stock job listed)
thick_in_wall stock job listed liner own in_wall l o =
    let whole = wall_is stock job listed in
    let share : liner_share stock job.liner_in_wall job.liner ≡ wall_thickness (items_of stock job.liner)
    = ap (λ b. liner_share stock b job.liner) in_wall in
    omega (arith, ints, whole, share, l, o)

-- ---- the thickest of more items

pub record MostSoFar (next v : ℤ) : Type 0 where
  pub most : v ≡ next
  pub least : pos 0 ≤ℤ v
  pub greatest : v ≤ℤ pos 20000

pub thickest_more : (stock items : List Item) (k : ℕ) (i : Item) (most r : ℤ) → All WithinLimits stock → items ≡ stock → k < length items
    → i ≡ get_or items k i → most ≡ thickest (take k items) → pos 0 ≤ℤ most → most ≤ℤ pos 20000 → r ≡ int_max most (to_z w64 (of_z w64 i.lamina.t))
    → MostSoFar (thickest (take (k + 1) items)) (to_z w64 (of_z w64 r))
thickest_more stock items k i most r limits same within here so_far low high computed =
    let t = (subst (All WithinLimits) (sym same) limits k i within).limits.range.rest in
    let own : i.lamina.t ≡ (get_or items k i).lamina.t = ap (λ (x : Item). x.lamina.t) here in
    let narrow : to_z w64 (of_z w64 i.lamina.t) ≡ i.lamina.t
    = to_z-of_z w64 i.lamina.t (small_fits i.lamina.t (omega (arith, ints, own, t.least_t)) (omega (arith, ints, own, t.greatest_t))) in
    let greater : r ≡ int_max most i.lamina.t = computed ∙ ap (λ (x : ℤ). int_max most x) narrow in
    let m = int_max_is most i.lamina.t in
    let least : pos 0 ≤ℤ r = omega (arith, ints, greater, m, low) in
    let greatest : r ≤ℤ pos 20000 = omega (arith, ints, greater, m, high, own, t.greatest_t) in
    let fits : to_z w64 (of_z w64 r) ≡ r = to_z-of_z w64 r (small_fits r (omega (arith, ints, least)) (omega (arith, ints, greatest))) in
    let next : r ≡ thickest (take (k + 1) items)
    = greater ∙ ap (λ (x : ℤ). int_max x i.lamina.t) so_far ∙ ap (λ (x : ℤ). int_max (thickest (take k items)) x) own
    ∙ sym (fold_more (λ (x : ℤ) (other : Item). int_max x other.lamina.t) (pos 0) items k i within) in
    subst (MostSoFar (thickest (take (k + 1) items))) (sym fits) (record { most = next; least = least; greatest = greatest })
