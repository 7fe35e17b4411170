-- Slanted plies among those listed.
use Rattle.std.proofs.Common.{◌≡◌, refl, sym, ◌∙◌, subst, ℕ, ◌+◌, ◌<◌, ◌↔◌, Bool, true, false, not, IsTrue, List, length, take, get_or, slice_get, Some, All, Any}
use Rattle.std.proofs.lemmas.List.Elements.{All-push}
use Rattle.std.proofs.lemmas.Option.{get_or_from_slice_get, slice_get-get_or, slice_get_within}
use Rattle.lam_stock.specs.declared.item.Item.{Item}
use Rattle.lam_stock.specs.declared.item.ItemNo.{ItemNo}
use Rattle.lam_stock.specs.Stock.{IsKnown}
use Rattle.lam_job.specs.JobData.{JobData}
use Rattle.lam_job.specs.Rules.{IsSlanted, IsPalindrome, LinerCarries, KeepsFitness}
use Rattle.lam_job.specs.Schedule.{items_of}
use Rattle.lam_job.proofs.Listed.{items_of-get, items_of-more, known-item}
use Rattle.lam_rules.proofs.Among.{none_among, all_not}

pub slanted_at : (stock : List Item) (plies : List ItemNo) (k : ℕ) (d : ItemNo) (e : Item) → IsKnown stock plies → k < length plies
    → IsSlanted (get_or stock (get_or plies k d).0 e) → Any IsSlanted (items_of stock plies)
slanted_at stock plies k d e known within slanted =
    let ply = get_or plies k d in
    let i = get_or stock ply.0 e in
    let here : slice_get (items_of stock plies) k ≡ Some i
    = items_of-get stock k plies ply known (slice_get-get_or plies k d within) ∙ known-item stock plies k d e within known in
    (k, i, slice_get_within (items_of stock plies) k i here, get_or_from_slice_get (items_of stock plies) k i i here, slanted)

pub straight_more : (stock : List Item) (plies : List ItemNo) (k : ℕ) (d : ItemNo) (e : Item) → IsKnown stock plies → k < length plies
    → All (λ i. ¬ IsSlanted i) (items_of stock (take k plies)) → ¬ IsSlanted (get_or stock (get_or plies k d).0 e)
    → All (λ i. ¬ IsSlanted i) (items_of stock (take (k + 1) plies))
straight_more stock plies k d e known within so_far straight =
    let i = get_or stock (get_or plies k d).0 e in
    let P = λ (i : Item). ¬ IsSlanted i in
    subst (All P) (sym (items_of-more stock plies k d i within (known-item stock plies k d e within known)))
    (All-push P (items_of stock (take k plies)) i so_far straight)

-- where a panel is asked, no liner carries load and the list is the same from both ends, the wall is fit if no ply is slanted
pub fit_if_straight : (stock : List Item) (job : JobData) (plies : List ItemNo) → 0 < length job.panels → ¬ LinerCarries job → IsPalindrome plies
    → (slanted : Bool) → (IsTrue slanted ↔ Any IsSlanted (items_of stock plies)) → IsTrue (not slanted) ↔ KeepsFitness stock job plies
fit_if_straight stock job plies asked liner same false tells = (
  (λ t some. record { liner = liner; symmetric = same; straight = all_not IsSlanted (items_of stock plies) (λ any. let e : false ≡ true = tells.1 any in cc) }),
  (λ kept. refl),
)
fit_if_straight stock job plies asked liner same true tells = (
  (λ t. absurd (let e : false ≡ true = t in cc)),
  (λ kept. absurd (none_among IsSlanted (items_of stock plies) (kept asked).straight (tells.0 refl))),
)
