-- The items that numbers of a catalogue list.
use Rattle.std.proofs.Common.{◌≡◌, refl, sym, ◌∙◌, ap, subst, ℕ, zero, suc, ◌+◌, ◌<◌, List, [], ◌∷◌, ◌++◌, length, take, get_or, slice_get, Option, Some, None, All, ◌+ℤ◌, arith}
use mathlib.Core.Logic.{⊎_elim}
use Rattle.std.specs.List.{cons_option}
use Rattle.std.proofs.lemmas.Int.{ints}
use Rattle.std.proofs.lemmas.List.{take_more}
use Rattle.std.proofs.lemmas.List.Elements.{All-cons, All-get_or, All-head, All-nil, All-tail, filter_map-append}
use Rattle.std.proofs.lemmas.Option.{get_or_from_slice_get, slice_get-get_or, slice_get_cases, slice_get_within}
use Rattle.lam_stock.specs.declared.item.Item.{Item}
use Rattle.lam_stock.specs.declared.item.ItemNo.{ItemNo}
use Rattle.lam_job.specs.Schedule.{items_of}
use Rattle.lam_job.specs.Wall.{wall_thickness}
use Rattle.lam_job.proofs.Places.{thickness-append}

module _ (stock : List Item) where
  -- the catalogue has an item of this number
  abbrev pub IsItemOf : ItemNo → Type 0
  IsItemOf ply = ply.0 < length stock

  pub item_of : (ply : ItemNo) → IsItemOf ply → (i : Item) × (slice_get stock ply.0 ≡ Some i)
  item_of ply known = ⊎_elim (λ h. (h.0, h.2)) (λ h. absurd (omega (arith, h.0))) (slice_get_cases stock ply.0).1

  -- ---- more numbers

  pub items_of-append : (a b : List ItemNo) → items_of stock (a ++ b) ≡ items_of stock a ++ items_of stock b
  items_of-append a b = filter_map-append (λ (ply : ItemNo). slice_get stock ply.0) a b

  pub items_of-one : (ply : ItemNo) (i : Item) → slice_get stock ply.0 ≡ Some i → items_of stock (ply ∷ []) ≡ i ∷ []
  items_of-one ply i e = ap (λ o. cons_option o []) e

  pub items_of-more : (numbers : List ItemNo) (k : ℕ) (d : ItemNo) (i : Item) → k < length numbers → slice_get stock (get_or numbers k d).0 ≡ Some i
      → items_of stock (take (k + 1) numbers) ≡ items_of stock (take k numbers) ++ i ∷ []
  items_of-more numbers k d i within e =
      ap (items_of stock) (take_more numbers k d within)
      ∙ items_of-append (take k numbers) (get_or numbers k d ∷ [])
      ∙ ap (λ xs. items_of stock (take k numbers) ++ xs) (items_of-one (get_or numbers k d) i e)

  pub known-item : (numbers : List ItemNo) (k : ℕ) (d : ItemNo) (e : Item) → k < length numbers → All IsItemOf numbers
      → slice_get stock (get_or numbers k d).0 ≡ Some (get_or stock (get_or numbers k d).0 e)
  known-item numbers k d e within known = slice_get-get_or stock (get_or numbers k d).0 e (All-get_or IsItemOf numbers k d within known)

  pub thickness-more : (numbers : List ItemNo) (k : ℕ) (d : ItemNo) (e : Item) → k < length numbers → All IsItemOf numbers
      → wall_thickness (items_of stock (take (k + 1) numbers)) ≡ wall_thickness (items_of stock (take k numbers)) +ℤ (get_or stock (get_or numbers k d).0 e).lamina.t
  thickness-more numbers k d e within known =
      let i = get_or stock (get_or numbers k d).0 e in
      ap wall_thickness (items_of-more numbers k d i within (known-item numbers k d e within known))
      ∙ thickness-append (items_of stock (take k numbers)) (i ∷ [])
      ∙ omega (arith, ints)

  -- ---- one item for each known number

  pub items_of-length : (numbers : List ItemNo) → All IsItemOf numbers → length (items_of stock numbers) ≡ length numbers
  items_of-length [] known = refl
  items_of-length (ply ∷ numbers) known =
      ap (λ o. length (cons_option o (items_of stock numbers))) (item_of ply (All-head IsItemOf ply numbers known)).1
      ∙ ap suc (items_of-length numbers (All-tail IsItemOf ply numbers known))

  pub items_of-take : (k : ℕ) (numbers : List ItemNo) → All IsItemOf numbers → items_of stock (take k numbers) ≡ take k (items_of stock numbers)
  items_of-take zero numbers known = refl
  items_of-take (suc k) [] known = refl
  items_of-take (suc k) (ply ∷ numbers) known =
      let i = item_of ply (All-head IsItemOf ply numbers known) in
      ap (λ o. cons_option o (items_of stock (take k numbers))) i.1
      ∙ ap (λ xs. i.0 ∷ xs) (items_of-take k numbers (All-tail IsItemOf ply numbers known))
      ∙ ap (λ o. take (suc k) (cons_option o (items_of stock numbers))) (sym i.1)

  pub items_of-get : (k : ℕ) (numbers : List ItemNo) (ply : ItemNo) → All IsItemOf numbers → slice_get numbers k ≡ Some ply
      → slice_get (items_of stock numbers) k ≡ slice_get stock ply.0
  items_of-get k [] ply known e = cc
  items_of-get zero (p ∷ numbers) ply known e =
      let i = item_of p (All-head IsItemOf p numbers known) in
      let same : p ≡ ply = cc in
      ap (λ o. slice_get (cons_option o (items_of stock numbers)) zero) i.1 ∙ sym i.1 ∙ ap (λ (q : ItemNo). slice_get stock q.0) same
  items_of-get (suc k) (p ∷ numbers) ply known e =
      ap (λ o. slice_get (cons_option o (items_of stock numbers)) (suc k)) (item_of p (All-head IsItemOf p numbers known)).1
      ∙ items_of-get k numbers ply (All-tail IsItemOf p numbers known) e

  -- ---- what each item of the catalogue keeps, each item listed keeps

  module _ (P : Item → Type 0) (all : All P stock) where
    kept : (i : Item) (n : ℕ) → slice_get stock n ≡ Some i → P i
    kept i n e = subst P (get_or_from_slice_get stock n i i e) (All-get_or P stock n i (slice_get_within stock n i e) all)

    on_top : (items : List Item) → All P items → (o : Option Item) → ((i : Item) → o ≡ Some i → P i) → All P (cons_option o items)
    on_top items h None each = h
    on_top items h (Some i) each = All-cons P i items (each i refl) h

    pub items_of-all : (numbers : List ItemNo) → All P (items_of stock numbers)
    items_of-all [] = All-nil P
    items_of-all (ply ∷ numbers) = on_top (items_of stock numbers) (items_of-all numbers) (slice_get stock ply.0) (λ i e. kept i ply.0 e)
