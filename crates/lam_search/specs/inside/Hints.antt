-- What is known of all children of a split, so that it need not be asked of each.
use Rattle.std.specs.Prelude.{◌≡◌, ℕ, ◌<◌, length, slice_get, All, Option, Some, IsTrue, IfSome}
use Rattle.lam_stock.specs.declared.item.ItemNo.{ItemNo}
use Rattle.lam_job.specs.JobData.{CaseData}
use Rattle.lam_job.specs.Partial.{Partial, child}
use Rattle.lam_tree.specs.ForceBalance.{IsShort, net_cost}
use Rattle.lam_tree.specs.TriedWeights.{tried_weights}
use Rattle.lam_search.specs.declared.hints.Hints.{Hints}
use Rattle.lam_search.specs.inside.Here.{Basis}

module _ (m : Basis) where
  -- no case is short with a tried weight
  abbrev pub IsCarried : Partial → Type 0
  IsCarried p =
      (k : ℕ) (case : CaseData) → slice_get m.job.cases k ≡ Some case
      → All (λ w. ¬ IsShort m.stock m.job p case w (λ i. m.tests.capacity i w)) tried_weights

  -- no case with a tried weight shows a cost that is not below a limit
  abbrev pub IsCheaper : ℕ → Partial → Type 0
  IsCheaper limit p =
      (k : ℕ) (case : CaseData) → slice_get m.job.cases k ≡ Some case
      → All (λ w. net_cost m.stock m.job p case w (λ i. m.tests.capacity i w) < limit) tried_weights

  -- what is known of a partial
  pub record AreHints (p : Partial) (hints : Hints) : Type 0 where
    pub carried : IsTrue hints.no_short → IsCarried p
    pub cheap : IfSome hints.limit (λ limit. IsCheaper limit p)

  -- and of all its children
  abbrev pub AreChildHints : Partial → Hints → Type 0
  AreChildHints p hints = (item : ItemNo) → item.0 < length m.stock → AreHints (child p item) hints

  -- no child costs as much as a limit, if there is one
  abbrev pub AreCheapChildren : Partial → (limit : Option ℕ) → Type 0
  AreCheapChildren p limit = (item : ItemNo) → item.0 < length m.stock → IfSome limit (λ cost. IsCheaper cost (child p item))
