-- When a word closes a partial schedule, and when a split is lawful, as a checker finds it.
use Rattle.std.specs.Prelude.{◌≡◌, ℕ, ◌≤◌, ◌<◌, ◌⊎◌, pos, List, [], ◌∷◌, slice_get, All, Option, Some, None, IsTrue, IfSome, IsSomeAnd, min}
use Rattle.lam_stock.specs.declared.item.Item.{Item}
use Rattle.lam_job.specs.JobData.{JobData, CaseData}
use Rattle.lam_job.specs.Rules.{LinerCarries, IsLeastBroken}
use Rattle.lam_job.specs.Schedule.{cost_of}
use Rattle.lam_job.specs.LoadOf.{load_of}
use Rattle.lam_job.specs.Partial.{Partial, IsFull, SeemsWell, completion, cost_floor}
use Rattle.lam_rules.specs.LeastVisible.{IsLeastVisible}
use Rattle.lam_tree.specs.TriedWeights.{tried_weights}
use Rattle.lam_tree.specs.declared.node.Word.{Word}
use Rattle.lam_tree.specs.declared.node.Word.TheVariants as word
use Rattle.lam_tree.specs.ForceBalance.{IsShort, net_cost}
use Rattle.lam_tree.specs.Reading.{Visit}
use Rattle.lam_tree.specs.Tests.{Tests}

-- ---- splits

-- there is no cost, or a number is below it
abbrev pub IsBelow : ℕ → (limit : Option ℕ) → Type 0
IsBelow n limit = IfSome limit (λ cost. n < cost)

-- there is a cost, and a number is not below it
abbrev pub Reaches : ℕ → (limit : Option ℕ) → Type 0
Reaches n limit = IsSomeAnd limit (λ cost. cost ≤ n)

-- a split is lawful: the partial is not full, no rule is seen to be broken, and the incumbent, if any, costs more than
-- the least that a completion can cost
pub record IsLawful (stock : List Item) (job : JobData) (incumbent : Option ℕ) (p : Partial) : Type 0 where
  pub more : ¬ IsFull job p
  pub well : SeemsWell stock job p
  pub cheap : IsBelow (cost_floor stock job p) incumbent

-- the case has no moments
abbrev pub HasNoMoments : CaseData → Type 0
HasNoMoments case =
    let load = load_of case.kind in
    (load.mx ≡ pos 0) × (load.my ≡ pos 0) × (load.mxy ≡ pos 0)

-- boxes of strains are sought where walls are symmetric and a case has no moments
pub record MayBox (job : JobData) (case : CaseData) : Type 0 where
  pub symmetric : IsTrue job.rules.symmetric
  pub liner : ¬ LinerCarries job
  pub moments : HasNoMoments case

-- no case closes a partial by a tried weight, nor by a box
pub record IsOpenUnder (stock : List Item) (job : JobData) (tests : Tests) (incumbent : Option ℕ) (p : Partial) (k : ℕ) (case : CaseData) : Type 0 where
  pub carried : All (λ w. ¬ IsShort stock job p case w (λ i. tests.capacity i w)) tried_weights
  pub cheap : All (λ w. IsBelow (net_cost stock job p case w (λ i. tests.capacity i w)) incumbent) tried_weights
  pub unboxed : MayBox job case → tests.boxed p k ≡ None

-- a search may split a partial: that is lawful, and nothing closes it
pub record MaySplit (stock : List Item) (job : JobData) (tests : Tests) (incumbent : Option ℕ) (p : Partial) : Type 0 where
  pub lawful : IsLawful stock job incumbent p
  pub cases : (k : ℕ) (case : CaseData) → slice_get job.cases k ≡ Some case → IsOpenUnder stock job tests incumbent p k case

-- ---- leaves

-- the least rule: of a full partial the least that its completion breaks, of any other the least that is seen to be broken
pub record ClosesByRule (stock : List Item) (job : JobData) (p : Partial) (rule : ℕ) : Type 0 where
  pub broken : IsFull job p → IsLeastBroken rule stock job (completion job p)
  pub visible : ¬ IsFull job p → IsLeastVisible rule stock job p

-- a word is what a line of this partial may say: with the incumbent of the moment where it is a split, with the cost of
-- the report's best schedule where it is a leaf
abbrev pub IsSound : List Item → JobData → Tests → (best incumbent : Option ℕ) → Partial → Word → Type 0
IsSound stock job tests best incumbent p word.Split = MaySplit stock job tests incumbent p
IsSound stock job tests best incumbent p word.Cost = Reaches (cost_floor stock job p) best
IsSound stock job tests best incumbent p (word.Rule rule) = ClosesByRule stock job p rule.0
IsSound stock job tests best incumbent p (word.NetShort k w) =
    IsSomeAnd (slice_get job.cases k) (λ case. IsShort stock job p case w (λ i. tests.capacity i w))
IsSound stock job tests best incumbent p (word.NetCost k w) =
    IsSomeAnd (slice_get job.cases k) (λ case.
    IsShort stock job p case w (λ i. tests.capacity i w) ⊎ Reaches (net_cost stock job p case w (λ i. tests.capacity i w)) best)
IsSound stock job tests best incumbent p (word.Box at) =
    IsSomeAnd (slice_get job.cases at.case) (λ case. MayBox job case × (tests.boxed p at.case ≡ Some at))
IsSound stock job tests best incumbent p leaf = IsFull job p × (tests.judged (completion job p) ≡ leaf)

-- ---- the incumbent: the least cost of the admissible leaves read so far

abbrev pub lesser : Option ℕ → ℕ → ℕ
lesser None cost = cost
lesser (Some least) cost = min least cost

abbrev pub incumbent_with : List Item → JobData → Option ℕ → Partial → Word → Option ℕ
incumbent_with stock job c p word.Admissible = Some (lesser c (cost_of stock job (completion job p)))
incumbent_with stock job c p other = c

abbrev pub incumbent_after : List Item → JobData → Option ℕ → List Visit → Option ℕ
incumbent_after stock job c [] = c
incumbent_after stock job c (v ∷ rest) = incumbent_after stock job (incumbent_with stock job c v.partial v.word) rest
