-- The extension of a completion, its thickness and its strain, by what all completions have in common.
use Rattle.std.proofs.Common.{◌≡◌, refl, sym, subst, ℕ, ◌+◌, ◌-◌, ◌*◌, ◌<◌, ◌≤◌, ℤ, pos, ◌+ℤ◌, ◌*ℤ◌, ◌≤ℤ◌, Bool, true, false, List, [], ◌∷◌, ◌++◌, length, reverse, take, All, arith}
use Rattle.std.proofs.lemmas.Int.{ints}
use Rattle.std.proofs.lemmas.List.{reverse-append}
use Rattle.std.proofs.lemmas.List.Elements.{All-append, All-head, All-nil, All-push, All-same, All-tail, All-take, All-weaker}
use Rattle.lam_fraction.specs.Fraction.{ℚ, fraction, ◌+ℚ◌, ◌*ℚ◌}
use Rattle.lam_fraction.specs.numbers.Numbers.{Numbers, Lawful, Holds}
use Rattle.lam_fraction.proofs.Integers.{◌*ₙ◌}
use Rattle.lam_stock.specs.declared.item.Item.{Item}
use Rattle.lam_stock.specs.declared.item.ItemNo.{ItemNo}
use Rattle.lam_stock.specs.Scale.{scale_of}
use Rattle.lam_stock.specs.Stock.{IsKnown, IsStock, WithinLimits}
use Rattle.lam_stock.proofs.ScaleFacts.{scale-kept}
use Rattle.lam_lamina.specs.Covered.{IsCovered}
use Rattle.lam_lamina.specs.Held.{HoldsMatrix}
use Rattle.lam_lamina.proofs.Catalogue.{catalogue-covered}
use Rattle.lam_job.specs.JobData.{JobData}
use Rattle.lam_job.specs.Partial.{Partial, Completes, fixed_plies, half, open_places, thickest}
use Rattle.lam_job.specs.Schedule.{items_of}
use Rattle.lam_job.specs.Wall.{wall_thickness}
use Rattle.lam_job.proofs.Listed.{items_of-all, items_of-length}
use Rattle.lam_job.proofs.Places.{thickness-within, thickness_not_negative, wall_not_negative}
use Rattle.lam_rules.specs.Conditions.{IsPartial}
use Rattle.lam_rules.proofs.Parts.{fixed_in_parts, mirror_images}
use Rattle.lam_wall.specs.Matrices.{stiffness_of}
use Rattle.lam_wall.proofs.LaidWall.{AreWithin}
use Rattle.lam_boxes.specs.inside.Extents.{fixed_items, least_thick, most_thick, thinnest}
use Rattle.lam_boxes.specs.inside.Extensions.{any_plies, extension, fixed_sum}
use Rattle.lam_boxes.specs.inside.Parts.{AreFixed, FitEach, IsThickness, MatrixReaches, entry_reach, extension_reach, open_reach}
use Rattle.lam_boxes.proofs.HeldExtension.{Fits, any-holds, any-reaches, fixed-holds, fixed-reaches, means-hold, part, shares_matrix, together-holds, together-reaches}
use Rattle.lam_boxes.proofs.PlySums.{Filled, filled, shares}
use Rattle.lam_boxes.proofs.Thicknesses.{fixed-below, plies-at_least, thickest-above, thickest-all, thickest-below, thinnest-above, thinnest-all, thinnest-below, thinnest-thickest, times-order}

-- ---- what a call is given

covered : (stock : List Item) → IsStock stock (scale_of stock) → All (λ i. IsCovered (scale_of stock).q0 i.lamina) stock
covered stock is = catalogue-covered stock (scale_of stock) is.limits (scale-kept stock stock (scale_of stock) is refl).0

-- the plies of a list, and the first of them
pub are-within : {h : ℤ} {stock : List Item} {numbers : List ItemNo} → AreFixed h stock numbers → AreWithin (scale_of stock).q0 h (items_of stock numbers)
are-within {stock = stock} {numbers} f =
    let count = items_of-length stock numbers f.known in
    record {
      least = f.thickness.least;
      greatest = f.thickness.greatest;
      limits = items_of-all stock WithinLimits f.catalogue.limits numbers;
      covered = items_of-all stock (λ i. IsCovered (scale_of stock).q0 i.lamina) (covered stock f.catalogue) numbers;
      within = f.within;
      few = omega (arith, count, f.few);
    }

pub fits-each : {A : Type 0} {n : Numbers A} (laws : Lawful n) {stock : List Item} {places h : ℤ} (f : FitEach places h stock) → All (Fits laws (scale_of stock).q0 h f.thickness places) stock
fits-each laws {stock} f = λ j i inside. record {
  limits = f.catalogue.limits j i inside;
  covered = covered stock f.catalogue j i inside;
  least = f.some *ₙ thickness_not_negative (f.catalogue.limits j i inside);
  within = f.within j i inside;
}

-- ---- known plies

All-reverse : {X : Type 0} (P : X → Type 0) (xs : List X) → All P xs → All P (reverse xs)
All-reverse P [] all = all
All-reverse P (x ∷ xs) all =
    All-same P (reverse (x ∷ xs)) (reverse xs ++ x ∷ []) (reverse-append (x ∷ []) xs)
    (All-push P (reverse xs) x (All-reverse P xs (All-tail P x xs all)) (All-head P x xs all))

images-all : (P : ItemNo → Type 0) (symmetric : Bool) (p : Partial) → All P p.prefix → All P (mirror_images symmetric p)
images-all P true p all = All-reverse P (take (p.n - length p.prefix) p.prefix) (All-take P (p.n - length p.prefix) p.prefix all)
images-all P false p all = All-nil P

pub fixed-known : (stock : List Item) (job : JobData) (p : Partial) → IsKnown stock p.prefix → IsKnown stock (fixed_plies job p)
fixed-known stock job p known =
    subst (IsKnown stock) (sym (fixed_in_parts job p))
    (All-append (λ (ply : ItemNo). ply.0 < length stock) p.prefix (mirror_images job.rules.symmetric p) known (images-all (λ (ply : ItemNo). ply.0 < length stock) job.rules.symmetric p known))

-- ---- the thicknesses of what is settled in part

module _ (stock : List Item) (job : JobData) (p : Partial) (is : IsStock stock (scale_of stock)) (ok : IsPartial stock job p) (more : length p.prefix < half job p.n) where
  abbrev k : ℕ
  k = open_places job p

  abbrev own : ℤ
  own = wall_thickness (fixed_items stock job p)

  known : IsKnown stock (fixed_plies job p)
  known = fixed-known stock job p ok.known

  fixed-limits : All WithinLimits (fixed_items stock job p)
  fixed-limits = items_of-all stock WithinLimits is.limits (fixed_plies job p)

  own-above : pos 0 ≤ℤ own
  own-above = wall_not_negative (fixed_items stock job p) fixed-limits

  some-open : 1 ≤ k
  some-open = let h = fixed-below job p more in omega (arith, h)

  -- the fixed plies and the open places are all places
  own-below : own ≤ℤ pos (20000 * length (fixed_plies job p))
  own-below =
      let t = (thickness-within (fixed_items stock job p) fixed-limits).1 in
      let count = items_of-length stock (fixed_plies job p) known in
      omega (arith, ints, t, count)

  places : length (fixed_plies job p) + k ≤ 56
  places = let h = fixed-below job p more in let few = ok.few in omega (arith, h, few)

  open-thick : (t : ℤ) → pos 50 ≤ℤ t → t ≤ℤ pos 20000 → IsThickness (own +ℤ pos k *ℤ t)
  open-thick t least greatest =
      let low = times-order k (pos 50) t least in
      let high = times-order k t (pos 20000) greatest in
      record { least = omega (arith, ints, low, own-above, some-open); greatest = omega (arith, ints, high, own-below, places) }

  pub most-is : IsThickness (most_thick stock job p)
  most-is =
      let a = thinnest-above stock is.limits in
      let b = thinnest-thickest stock is.some in
      open-thick (thickest stock) (omega (arith, ints, a, b)) (thickest-below stock is.limits)

  pub least-is : IsThickness (least_thick stock job p)
  least-is = open-thick (thinnest stock) (thinnest-above stock is.limits) (thinnest-below stock)

  pub are-fixed : AreFixed (most_thick stock job p) stock (fixed_plies job p)
  are-fixed =
      let low = times-order k (pos 0) (thickest stock) (thickest-above stock) in
      record {
        catalogue = is;
        thickness = most-is;
        few = (let h = places in omega (arith, h));
        known = known;
        within = omega (arith, ints, low);
      }

  pub fit-each : FitEach (pos k) (most_thick stock job p) stock
  fit-each = record {
    catalogue = is;
    thickness = most-is;
    some = omega (arith, ints);
    within = All-weaker (λ i. i.lamina.t ≤ℤ thickest stock) (λ i. (pos k *ℤ i.lamina.t) ≤ℤ most_thick stock job p)
        (λ i h. let t = times-order k i.lamina.t (thickest stock) h in omega (arith, ints, t, own-above)) stock (thickest-all stock);
  }

  -- ---- their extension, held

  module _ {A : Type 0} {n : Numbers A} (laws : Lawful n) where
    abbrev q0 : ℤ
    q0 = (scale_of stock).q0

    abbrev most : ℤ
    most = most_thick stock job p

    fixed-reach : MatrixReaches n entry_reach (fixed_sum n q0 most (fixed_items stock job p))
    fixed-reach = fixed-reaches laws q0 most (are-within are-fixed)

    open-fits : All (Fits laws q0 most most-is (pos k)) stock
    unfolding most-is fit-each
    open-fits = fits-each laws fit-each

    open-reaches : MatrixReaches n open_reach (any_plies n q0 most (pos k) stock)
    open-reaches = any-reaches laws q0 most most-is (pos k) stock is.some is.few open-fits

    pub extension-reaches : MatrixReaches n extension_reach (extension n q0 most (fixed_items stock job p) (pos k) stock)
    extension-reaches = together-reaches laws q0 most fixed-reach open-reaches

    module _ (listed : List ItemNo) (c : Completes stock job p listed) where
      f : Filled stock job p listed
      f = filled stock job p listed c

      abbrev between : List Item
      between = items_of stock f.between

      open-holds : HoldsMatrix n (any_plies n q0 most (pos k) stock) (shares_matrix q0 most between)
      open-holds =
          let each = items_of-all stock (λ i. HoldsMatrix n (any_plies n q0 most (pos k) stock) (part laws q0 most most-is (pos k) i)) (any-holds laws q0 most most-is (pos k) stock is.few open-fits) f.between in
          means-hold laws q0 most most-is (any_plies n q0 most (pos k) stock) between (let h = some-open in omega (arith, h, f.long))
          (subst (λ m. All (λ i. HoldsMatrix n (any_plies n q0 most (pos k) stock) (part laws q0 most most-is (pos m) i)) between) (sym f.long) each)

      sums : (g : Item → ℚ) → shares most g (fixed_items stock job p) +ℚ shares most g between ≡ shares most g (items_of stock listed)
      sums g = sym (f.sums (λ i. fraction i.lamina.t most *ℚ g i))

      pub extension-holds : HoldsMatrix n (extension n q0 most (fixed_items stock job p) (pos k) stock) (shares_matrix q0 most (items_of stock listed))
      extension-holds =
          let both = together-holds laws q0 most fixed-reach open-reaches (fixed-holds laws q0 most (are-within are-fixed)) open-holds in
          record {
            xx = subst (Holds n _) (sums (λ i. (stiffness_of q0 i).xx)) both.xx;
            xy = subst (Holds n _) (sums (λ i. (stiffness_of q0 i).xy)) both.xy;
            yy = subst (Holds n _) (sums (λ i. (stiffness_of q0 i).yy)) both.yy;
            xs = subst (Holds n _) (sums (λ i. (stiffness_of q0 i).xs)) both.xs;
            ys = subst (Holds n _) (sums (λ i. (stiffness_of q0 i).ys)) both.ys;
            ss = subst (Holds n _) (sums (λ i. (stiffness_of q0 i).ss)) both.ss;
          }

  -- ---- no completion is thinner

  pub least-within : (listed : List ItemNo) → Completes stock job p listed → least_thick stock job p ≤ℤ wall_thickness (items_of stock listed)
  least-within listed c =
      let f = filled stock job p listed c in
      let t = plies-at_least (thinnest stock) (items_of stock f.between) (items_of-all stock (λ i. thinnest stock ≤ℤ i.lamina.t) (thinnest-all stock) f.between) in
      let counted = subst (λ m. (pos m *ℤ thinnest stock) ≤ℤ wall_thickness (items_of stock f.between)) f.long t in
      omega (arith, ints, f.thickness, counted)
