-- Sums over listed items: by their numbers, and over what completes a partial schedule.
use Rattle.std.proofs.Common.{◌≡◌, refl, sym, ◌∙◌, ap, ap₂, subst, ℕ, suc, ◌+◌, ◌*◌, ◌≤◌, max, List, [], ◌∷◌, ◌++◌, length, fold, sum_by, slice_get, Option, Some, None, All, Bool, true, false, if◌then◌else◌, arith}
use Rattle.std.specs.List.{cons_option}
use Rattle.std.proofs.lemmas.List.Elements.{All-head, All-tail, All-cons, All-nil}
use Rattle.std.proofs.lemmas.List.Sums.{sum_by-append, sum_by-cons}
use Rattle.lam_stock.specs.declared.item.Item.{Item}
use Rattle.lam_stock.specs.declared.item.ItemNo.{ItemNo}
use Rattle.lam_job.specs.JobData.{JobData}
use Rattle.lam_job.specs.Schedule.{items_of, wall_of, cost_of}
use Rattle.lam_job.specs.Partial.{Partial, Completes, fixed_plies, open_places}
use Rattle.lam_job.proofs.Listed.{items_of-append, items_of-all, items_of-length}
use Rattle.lam_rules.proofs.Parts.{mirror_images, fixed_in_parts, completion_in_parts}
use Rattle.lam_tree.specs.ForceBalance.{greatest}

-- ---- one bound of all of a list

-- items that have so much each at most
pub each_at_most : (f : Item → ℕ) (m : ℕ) (items : List Item) → All (λ i. f i ≤ m) items → sum_by f items ≤ length items * m
each_at_most f m [] all = omega arith
each_at_most f m (i ∷ items) all =
    let first : f i ≤ m = All-head (λ (j : Item). f j ≤ m) i items all in
    let rest = each_at_most f m items (All-tail (λ (j : Item). f j ≤ m) i items all) in
    let sum = sum_by-cons f i items in
    let more : suc (length items) * m ≡ m + length items * m = omega arith in
    omega (arith, first, rest, sum, more)

abbrev most_from : (Item → ℕ) → ℕ → List Item → ℕ
most_from f z stock = fold (λ most i. max most (f i)) z stock

not_below : (f : Item → ℕ) (z : ℕ) (stock : List Item) → z ≤ most_from f z stock
not_below f z [] = omega arith
not_below f z (i ∷ rest) = let h = not_below f (max z (f i)) rest in omega (arith, h)

none_above : (f : Item → ℕ) (z : ℕ) (stock : List Item) → All (λ i. f i ≤ most_from f z stock) stock
none_above f z [] = All-nil (λ (i : Item). f i ≤ z)
none_above f z (i ∷ rest) =
    let most = max z (f i) in
    let h = not_below f most rest in
    All-cons (λ (other : Item). f other ≤ most_from f most rest) i rest (omega (arith, h)) (none_above f most rest)

-- no item is above the greatest
pub at_most_greatest : (f : Item → ℕ) (stock : List Item) → All (λ i. f i ≤ greatest stock f) stock
at_most_greatest f stock = none_above f 0 stock

module _ (stock : List Item) where
  -- ---- by numbers

  -- what the item of a number has, and 0 where there is none
  abbrev pub value_at : (Item → ℕ) → ItemNo → ℕ
  value_at f ply = elim (slice_get stock ply.0) [ Some i ↦ f i | None ↦ 0 ]

  abbrev pub amount : (Item → ℕ) → List ItemNo → ℕ
  amount f numbers = sum_by f (items_of stock numbers)

  pub amount-append : (f : Item → ℕ) (a b : List ItemNo) → amount f (a ++ b) ≡ amount f a + amount f b
  amount-append f a b = ap (sum_by f) (items_of-append stock a b) ∙ sum_by-append f (items_of stock a) (items_of stock b)

  one : (f : Item → ℕ) (ply : ItemNo) → amount f (ply ∷ []) ≡ value_at f ply
  one f ply = by (slice_get stock ply.0) where
    by : (o : Option Item) → sum_by f (cons_option o []) ≡ elim o [ Some i ↦ f i | None ↦ 0 ]
    by (Some i) = omega arith
    by None = refl

  pub amount-numbers : (f : Item → ℕ) (numbers : List ItemNo) → amount f numbers ≡ sum_by (value_at f) numbers
  amount-numbers f [] = refl
  amount-numbers f (ply ∷ numbers) =
      amount-append f (ply ∷ []) numbers ∙ ap₂ (λ m n. m + n) (one f ply) (amount-numbers f numbers) ∙ sym (sum_by-cons (value_at f) ply numbers)

  -- ---- with the liner, and without it

  abbrev pub liner_amount : (Item → ℕ) → Bool → JobData → ℕ
  liner_amount f true job = amount f job.liner
  liner_amount f false job = 0

  with_liner : (f : Item → ℕ) (in_wall : Bool) (job : JobData) (listed : List ItemNo)
      → sum_by f (if in_wall then items_of stock (job.liner ++ listed) else items_of stock listed) ≡ liner_amount f in_wall job + amount f listed
  with_liner f true job listed = amount-append f job.liner listed
  with_liner f false job listed = omega arith

  pub wall_amount : (f : Item → ℕ) (job : JobData) (listed : List ItemNo) → sum_by f (wall_of stock job listed) ≡ liner_amount f job.liner_in_wall job + amount f listed
  wall_amount f job listed = with_liner f job.liner_in_wall job listed

  pub cost_amount : (job : JobData) (listed : List ItemNo) → cost_of stock job listed ≡ amount (λ i. i.cost) job.liner + amount (λ i. i.cost) listed
  cost_amount job listed = amount-append (λ i. i.cost) job.liner listed

  -- ---- completions

  -- a completion is the fixed plies, with others at the open places
  pub record Filled (job : JobData) (p : Partial) (listed : List ItemNo) : Type 0 where
    pub between : List ItemNo
    pub long : length (items_of stock between) ≡ open_places job p
    pub amounts : (f : Item → ℕ) → amount f listed ≡ amount f (fixed_plies job p) + amount f between

  pub filled : (job : JobData) (p : Partial) (listed : List ItemNo) → Completes stock job p listed → Filled job p listed
  filled job p listed c =
      let images = mirror_images job.rules.symmetric p in
      let i = completion_in_parts stock job p listed c in
      let known = i.known (length stock) c.sequence.known in
      record {
        between = i.between;
        long = items_of-length stock i.between known ∙ i.long;
        amounts = λ f.
            let whole : amount f listed ≡ amount f p.prefix + (amount f i.between + amount f images) =
            ap (amount f) i.parts ∙ amount-append f p.prefix (i.between ++ images) ∙ ap (λ n. amount f p.prefix + n) (amount-append f i.between images) in
            let fixed : amount f (fixed_plies job p) ≡ amount f p.prefix + amount f images =
            ap (amount f) (fixed_in_parts job p) ∙ amount-append f p.prefix images in
            omega (arith, whole, fixed);
      }

  module _ {job : JobData} {p : Partial} {listed : List ItemNo} (h : Filled job p listed) where
    pub filled-wall : (f : Item → ℕ) → sum_by f (wall_of stock job listed) ≡ sum_by f (wall_of stock job (fixed_plies job p)) + amount f h.between
    filled-wall f =
        let a = wall_amount f job listed in
        let b = wall_amount f job (fixed_plies job p) in
        omega (arith, a, b, h.amounts f)

    pub filled-cost : cost_of stock job listed ≡ cost_of stock job (fixed_plies job p) + amount (λ i. i.cost) h.between
    filled-cost =
        let a = cost_amount job listed in
        let b = cost_amount job (fixed_plies job p) in
        omega (arith, a, b, h.amounts (λ i. i.cost))

    -- the open places carry at most what the strongest item carries at each
    pub filled-most : (f : Item → ℕ) → amount f h.between ≤ open_places job p * greatest stock f
    filled-most f =
        let most = each_at_most f (greatest stock f) (items_of stock h.between) (items_of-all stock (λ i. f i ≤ greatest stock f) (at_most_greatest f stock) h.between) in
        subst (λ n. amount f h.between ≤ n * greatest stock f) h.long most
