-- The greatest cost of an item, item by item.
use Rattle.std.proofs.Common.{◌≡◌, sym, ap, ℕ, ◌+◌, ◌<◌, ◌≤◌, max, List, length, take, get_or, All, arith}
use Rattle.std.proofs.lemmas.List.{take_all}
use Rattle.std.proofs.lemmas.List.Elements.{All-more, All-same, All-weaker}
use Rattle.lam_stock.specs.declared.item.Item.{Item}

abbrev pub AreAtMost : ℕ → List Item → Type 0
AreAtMost most items = All (λ i. i.cost ≤ most) items

pub dearest-more : (items : List Item) (k most r : ℕ) (i : Item) → k < length items → i ≡ get_or items k i → r ≡ max most i.cost → AreAtMost most (take k items) → AreAtMost r (take (k + 1) items)
dearest-more items k most r i within here is all =
    let own : i.cost ≡ (get_or items k i).cost = ap (λ (j : Item). j.cost) here in
    All-more (λ (j : Item). j.cost ≤ r) items k i within
    (All-weaker (λ (j : Item). j.cost ≤ most) (λ (j : Item). j.cost ≤ r) (λ j h. omega (arith, h, is)) (take k items) all)
    (omega (arith, own, is))

pub dearest-all : (items : List Item) (k most : ℕ) → length items ≤ k → AreAtMost most (take k items) → AreAtMost most items
dearest-all items k most all has = All-same (λ (j : Item). j.cost ≤ most) items (take k items) (sym (take_all k items all)) has
