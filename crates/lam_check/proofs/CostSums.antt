-- Costs of schedules, ply by ply.
use Rattle.std.proofs.Common.{◌≡◌, sym, ◌∙◌, ap, ap₂, ℕ, ◌+◌, ◌<◌, List, length, take, get_or, slice_get, Some}
use Rattle.std.specs.Prelude.{sum_by}
use Rattle.std.proofs.lemmas.List.Sums.{sum_by-append, sum_by_push}
use Rattle.std.proofs.lemmas.List.Elements.{All-get_or}
use Rattle.lam_stock.specs.declared.item.Item.{Item}
use Rattle.lam_stock.specs.declared.item.ItemNo.{ItemNo}
use Rattle.lam_stock.specs.Stock.{IsKnown}
use Rattle.lam_job.specs.JobData.{JobData}
use Rattle.lam_job.specs.Schedule.{items_of, cost_of}
use Rattle.lam_job.proofs.Listed.{item_of, items_of-more, items_of-append}

abbrev pub costs : List Item → List ItemNo → ℕ
costs stock plies = sum_by (λ i. i.cost) (items_of stock plies)

pub cost-more : (stock : List Item) (plies : List ItemNo) (k : ℕ) (d : ItemNo) (cost : ℕ) → k < length plies → IsKnown stock plies
    → ((i : Item) → slice_get stock (get_or plies k d).0 ≡ Some i → i.cost ≡ cost)
    → costs stock (take (k + 1) plies) ≡ costs stock (take k plies) + cost
cost-more stock plies k d cost within known is =
    let i = item_of stock (get_or plies k d) (All-get_or (λ (ply : ItemNo). ply.0 < length stock) plies k d within known) in
    ap (sum_by (λ (j : Item). j.cost)) (items_of-more stock plies k d i.0 within i.1)
    ∙ sum_by_push (λ (j : Item). j.cost) (items_of stock (take k plies)) i.0
    ∙ ap (λ n. costs stock (take k plies) + n) (is i.0 i.1)

pub whole-cost : (stock : List Item) (job : JobData) (listed liner own : List ItemNo) (a b : ℕ) → liner ≡ job.liner → own ≡ listed
    → a ≡ costs stock liner → b ≡ costs stock own → a + b ≡ cost_of stock job listed
whole-cost stock job listed liner own a b of_liner of_own first second =
    ap₂ (λ m n. m + n) (first ∙ ap (costs stock) of_liner) (second ∙ ap (costs stock) of_own)
    ∙ sym (ap (sum_by (λ (i : Item). i.cost)) (items_of-append stock job.liner listed)
    ∙ sum_by-append (λ (i : Item). i.cost) (items_of stock job.liner) (items_of stock listed))
