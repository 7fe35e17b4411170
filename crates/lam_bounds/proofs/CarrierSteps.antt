-- The tables of what items carry, item by item.
use Rattle.std.proofs.Common.{◌≡◌, ◌≢◌, refl, sym, ◌∙◌, ap, ap₂, subst, ℕ, zero, suc, ◌+◌, ◌*◌, ◌<◌, ◌≤◌, ◌^◌, min, max, List, [], ◌∷◌, length, take, get_or, set, slice_get, Some, Bool, true, false, ◌||◌, eqb, ltb, if◌then◌else◌, arith}
use Rattle.std.proofs.lemmas.Bool.{ltb-true, ltb-false, ne_eqb}
use Rattle.std.proofs.lemmas.List.{length-take, take_all, take_more, get_or-take, get_or-set_other, get_or-set_same}
use Rattle.std.proofs.lemmas.List.Elements.{All-more, All-weaker}
use Rattle.std.proofs.lemmas.List.Sums.{fold_more}
use Rattle.std.proofs.lemmas.Option.{get_or_from_slice_get, slice_get-get_or, slice_get_within}
use Rattle.std.proofs.Math.ListN.{length-set}
use Rattle.std.proofs.lemmas.Bool.{cases_lt}
use mathlib.Core.Logic.{⊎_elim}
use Rattle.lam_stock.specs.declared.item.Item.{Item}
use Rattle.lam_tree.specs.ForceBalance.{rounded_up, least_cost}
use Rattle.lam_bounds.specs.declared.carriers.Carriers.{Carriers}
use Rattle.lam_bounds.specs.inside.Tables.{AreCarriers, HasValues, with_item}
use Rattle.lam_bounds.proofs.NetCost.{least-more, better}

-- the members of a front of a list
in-front : {A : Type 0} (items : List A) (n j : ℕ) (i : A) → slice_get (take n items) j ≡ Some i → (j < n) × (j < length items) × (get_or items j i ≡ i)
in-front items n j i e =
    let within = slice_get_within (take n items) j i e in
    let long = length-take n items in
    let few : j < n = omega (arith, within, long) in
    (few, omega (arith, within, long), sym (get_or-take n items j i few) ∙ get_or_from_slice_get (take n items) j i i e)

front-of : {A : Type 0} (items : List A) (n j : ℕ) (i : A) → j < n → j < length items → get_or items j i ≡ i → slice_get (take n items) j ≡ Some i
front-of items n j i few within e =
    let long = length-take n items in
    slice_get-get_or (take n items) j i (omega (arith, few, within, long)) ∙ ap Some (get_or-take n items j i few ∙ e)

-- an empty table
pub table-none : {A : Type 0} (value : A → ℕ) (items : List A) (values : List ℕ) → HasValues value (take 0 items) values
table-none value items values = λ k i e. absurd (let h = slice_get_within (take 0 items) k i e in let long = length-take 0 items in omega (arith, h, long))

-- a table with one number more
pub table-more : {A : Type 0} (value : A → ℕ) (items : List A) (values : List ℕ) (k v : ℕ) (d : A) → HasValues value (take k items) values → k < length values → v ≡ value (get_or items k d)
    → HasValues value (take (k + 1) items) (set values k v)
table-more {A} value items values k v d has room e = λ j i at.
    let f = in-front items (k + 1) j i at in
    ⊎_elim (λ (below : j < k).
    let ne : j ≢ k = λ same. omega (arith, below, same) in
    get_or-set_other values k j v 0 ne ∙ has j i (front-of items k j i below f.1 f.2))
    (λ (not : k ≤ j).
    let same : j ≡ k = omega (arith, not, f.0) in
    ap (λ m. get_or (set values k v) m 0) same ∙ get_or-set_same values k v 0 room ∙ e
    ∙ ap value (get-same items k d i (subst (λ m. get_or items m i ≡ i) same f.2) (subst (λ m. m < length items) same f.1)))
    (cases_lt j k)
  where
    get-same : (items : List A) (k : ℕ) (d i : A) → get_or items k i ≡ i → k < length items → get_or items k d ≡ i
    get-same items k d i e within = get_or_from_slice_get items k i d (slice_get-get_or items k i within ∙ ap Some e)

pub long-more : (values : List ℕ) (k v n : ℕ) → length values ≡ n → length (set values k v) ≡ n
long-more values k v n long = length-set values k v ∙ long

-- the table of a whole list
pub table-all : {A : Type 0} (value : A → ℕ) (items : List A) (values : List ℕ) (k : ℕ) → length items ≤ k → HasValues value (take k items) values → HasValues value items values
table-all {A} value items values k all has = subst (λ (l : List A). HasValues value l values) (take_all k items all) has

module _ (capacity : Item → ℕ) where
  -- the better of two items
  cheaper : (c : Carriers) (cost caps lacking : ℕ) → 1 ≤ c.capacity → 1 ≤ caps → (b : Bool) → ltb (cost * c.capacity) (c.cost * caps) ≡ b
      → min (rounded_up (lacking * c.cost) (4000 * c.capacity)) (rounded_up (lacking * cost) (4000 * caps))
      ≡ rounded_up (lacking * (if b then cost else c.cost)) (4000 * (if b then caps else c.capacity))
  cheaper c cost caps lacking old new true e =
      let less = ltb-true (cost * c.capacity) (c.cost * caps) e in
      let order = better capacity lacking cost caps c.cost c.capacity new old (omega (arith, less)) in
      omega (arith, order)
  cheaper c cost caps lacking old new false e =
      let least = ltb-false (cost * c.capacity) (c.cost * caps) e in
      let order = better capacity lacking c.cost c.capacity cost caps old new least in
      omega (arith, order)

  -- the first of them is the best so far
  least-step : (c : Carriers) (items : List Item) (k : ℕ) (d : Item) → k < length items → AreCarriers capacity (take k items) c
      → (cost caps : ℕ) → cost ≡ (get_or items k d).cost → caps ≡ capacity (get_or items k d) → 1 ≤ caps → (lacking : ℕ)
      → least_cost capacity lacking (take (k + 1) items) ≡ rounded_up (lacking * (with_item c k cost caps).cost) (4000 * (with_item c k cost caps).capacity)
  least-step c items zero d within are cost caps cost-is caps-is some lacking =
      let first : take 1 items ≡ get_or items 0 d ∷ [] = take_more items 0 d within in
      ap (least_cost capacity lacking) first ∙ (λ i. rounded_up (lacking * sym cost-is i) (4000 * sym caps-is i))
  least-step c items (suc k) d within are cost caps cost-is caps-is some lacking =
      let x = get_or items (suc k) d in
      let front = take (suc k) items in
      let long = length-take (suc k) items in
      ap (least_cost capacity lacking) (take_more items (suc k) d within)
      ∙ least-more capacity lacking front x (omega (arith, long, within))
      ∙ ap₂ min (are.cost lacking) (λ i. rounded_up (lacking * sym cost-is i) (4000 * sym caps-is i))
      ∙ cheaper c cost caps lacking are.some some (ltb (cost * c.capacity) (c.cost * caps)) refl
      ∙ (λ i. rounded_up (lacking * (if (later k i || ltb (cost * c.capacity) (c.cost * caps)) then cost else c.cost)) (4000 * (if (later k i || ltb (cost * c.capacity) (c.cost * caps)) then caps else c.capacity)))
    where
      later : (k : ℕ) → false ≡ eqb (suc k) 0
      later k = sym (ne_eqb (suc k) 0 (λ (e : suc k ≡ 0). omega (arith, e)))

  cheap-step : (b : Bool) (m n : ℕ) → m ≤ 1000000000 → n ≤ 1000000000 → (if b then m else n) ≤ 1000000000
  cheap-step true m n h k = h
  cheap-step false m n h k = k

  some-step : (b : Bool) (m n : ℕ) → 1 ≤ m → 1 ≤ n → 1 ≤ (if b then m else n)
  some-step true m n h k = h
  some-step false m n h k = k

  -- with the next item
  pub carriers-more : (c : Carriers) (items : List Item) (k : ℕ) (d : Item) → k < length items → k < 64 → AreCarriers capacity (take k items) c
      → (cost caps : ℕ) → cost ≡ (get_or items k d).cost → caps ≡ capacity (get_or items k d) → 1 ≤ caps → caps < 2 ^ 64 → cost ≤ 1000000000
      → AreCarriers capacity (take (k + 1) items) (with_item c k cost caps)
  carriers-more c items k d within room are cost caps cost-is caps-is some fits cheap = record {
    long = long-more c.capacities k caps 64 are.long;
    each = table-more capacity items c.capacities k caps d are.each (subst (λ n. k < n) (sym are.long) room) caps-is;
    fits = All-more (λ (i : Item). capacity i < 2 ^ 64) items k d within are.fits (subst (λ n. n < 2 ^ 64) caps-is fits);
    greatest = ap₂ max are.greatest caps-is ∙ sym (fold_more (λ (most : ℕ) (i : Item). max most (capacity i)) 0 items k d within);
    least = All-more (λ (i : Item). min c.least caps ≤ capacity i) items k d within
        (All-weaker (λ (i : Item). c.least ≤ capacity i) (λ (i : Item). min c.least caps ≤ capacity i) (λ i h. omega (arith, h)) (take k items) are.least)
        (omega (arith, caps-is));
    cost = least-step c items k d within are cost caps cost-is caps-is some;
    cheap = cheap-step (eqb k 0 || ltb (cost * c.capacity) (c.cost * caps)) cost c.cost cheap are.cheap;
    some = some-step (eqb k 0 || ltb (cost * c.capacity) (c.cost * caps)) caps c.capacity some are.some;
  }

  -- of a whole list
  pub carriers-all : (c : Carriers) (items : List Item) (k : ℕ) → length items ≤ k → AreCarriers capacity (take k items) c → AreCarriers capacity items c
  carriers-all c items k all are = subst (λ (l : List Item). AreCarriers capacity l c) (take_all k items all) are
