-- Partial schedules: a length, and the first plies. A search settles many schedules at once by settling the partial
-- that they complete.
use Rattle.std.specs.Prelude.{◌≡◌, ℕ, zero, suc, ◌+◌, ◌-◌, ◌*◌, ◌/◌, ◌^◌, ◌<◌, ◌<ℤ◌, ◌⊎◌, ℤ, pos, ◌+ℤ◌, ◌*ℤ◌, min, ◌∷◌, List, [], ◌++◌, reverse, length, take, fold, Any, IsTrue, IsSomeAnd, Option, Bool, if◌then◌else◌}
use Rattle.std.specs.Int.{int_max}
use Rattle.lam_stock.specs.declared.item.Item.{Item}
use Rattle.lam_stock.specs.declared.item.ItemNo.{ItemNo}
use Rattle.lam_job.specs.declared.rules.ItemSet.{ItemSet}
use Rattle.lam_job.specs.JobData.{JobData}
use Rattle.lam_job.specs.Schedule.{items_of, wall_of, cost_of}
use Rattle.lam_job.specs.Wall.{wall_thickness}
use Rattle.lam_job.specs.Rules.{Rule, InnerRule, OuterRule, SymmetricRule, BalancedRule, RunRule, FewestRule, ThicknessRule, CountsRule, FitnessRule, rule_number, IsIn, first_ply, IsPalindrome, HasRun, times_of, IsSlanted, LinerCarries}
use Rattle.lam_job.specs.Design.{IsSequence}

pub record Partial : Type 0 where
  pub n : ℕ
  pub prefix : List ItemNo

-- a schedule completes a partial
pub record Completes (stock : List Item) (job : JobData) (p : Partial) (listed : List ItemNo) : Type 0 where
  pub sequence : IsSequence stock job listed
  pub long : length listed ≡ p.n
  pub begins : take (length p.prefix) listed ≡ p.prefix
  pub symmetric : IsTrue job.rules.symmetric → IsPalindrome listed

-- how many plies settle a schedule of n plies: where it is symmetric, half of them and the middle one
abbrev pub half_of : Bool → ℕ → ℕ
half_of symmetric n = if symmetric then (n + 1) / 2 else n

abbrev pub half : JobData → ℕ → ℕ
half job n = half_of job.rules.symmetric n

-- what is so of every completion
abbrev pub ForEveryCompletion : List Item → JobData → Partial → (List ItemNo → Type 0) → Type 0
ForEveryCompletion stock job p So = (listed : List ItemNo) → Completes stock job p listed → So listed

-- the partial with one more ply
abbrev pub child : Partial → ItemNo → Partial
child p item = record p { prefix = p.prefix ++ item ∷ [] }

-- the prefix settles all places: a full partial has at most one completion
abbrev pub IsFull : JobData → Partial → Type 0
IsFull job p = length p.prefix ≡ half job p.n

-- the plies that every completion has: the prefix and, where schedules are symmetric, the mirror images of its places,
-- of which the middle is its own
abbrev pub fixed_plies : JobData → Partial → List ItemNo
fixed_plies job p =
    if job.rules.symmetric then p.prefix ++ reverse (take (p.n - length p.prefix) p.prefix) else p.prefix

-- the only schedule that can complete a full partial; it does where that is one of 1 to the limit of the job's plies, all of
-- the catalogue
abbrev pub completion : JobData → Partial → List ItemNo
completion job p = fixed_plies job p

-- how many places are still open
abbrev pub open_places : JobData → Partial → ℕ
open_places job p = p.n - length (fixed_plies job p)

-- ---- bounds over all completions

-- the least cost of an item
abbrev pub cheapest : List Item → ℕ
cheapest [] = 0
cheapest (i ∷ rest) = fold (λ least other. min least other.cost) i.cost rest

-- no completion costs less than the fixed plies with the cheapest item at each open place
abbrev pub cost_floor : List Item → JobData → Partial → ℕ
cost_floor stock job p = cost_of stock job (fixed_plies job p) + open_places job p * cheapest stock

-- the greatest thickness of an item, in µm
abbrev pub thickest : List Item → ℤ
thickest stock = fold (λ most i. int_max most i.lamina.t) (pos 0) stock

-- no completion is thicker than the fixed plies with the thickest item at each open place
abbrev pub greatest_thickness : List Item → JobData → Partial → ℤ
greatest_thickness stock job p =
    wall_thickness (wall_of stock job (fixed_plies job p)) +ℤ pos (open_places job p) *ℤ thickest stock

-- ---- rules that every completion breaks, as can be seen from the partial

abbrev pub StartsWrong : Option ItemSet → List ItemNo → Type 0
StartsWrong asked prefix = IsSomeAnd asked (λ set. IsSomeAnd (first_ply prefix) (λ ply. ¬ IsIn set ply))

-- the first ply of a symmetric schedule is also its last
abbrev pub EndsWrong : Bool → Option ItemSet → List ItemNo → Type 0
EndsWrong symmetric asked prefix = IsTrue symmetric × StartsWrong asked prefix

abbrev pub RunsTooLong : Option ℕ → List ItemNo → Type 0
RunsTooLong asked prefix = IsSomeAnd asked (λ most. HasRun (suc most) prefix)

abbrev pub HasTooFew : Option ℕ → ℕ → Type 0
HasTooFew asked n = IsSomeAnd asked (λ least. n < least)

abbrev pub StaysTooThin : List Item → JobData → Partial → Type 0
StaysTooThin stock job p = IsSomeAnd job.rules.thickness (λ least. greatest_thickness stock job p <ℤ least)

abbrev pub CountsTooFew : JobData → Partial → Type 0
CountsTooFew job p = Any (λ count. times_of count.0 (fixed_plies job p) + open_places job p < count.1) job.rules.counts

abbrev pub IsUnfit : List Item → JobData → List ItemNo → Type 0
IsUnfit stock job prefix = (0 < length job.panels) × (LinerCarries job ⊎ Any IsSlanted (items_of stock prefix))

-- rules 3 and 4 cannot be seen to be broken
abbrev pub VisiblyBreaksRule : Rule → List Item → JobData → Partial → Type 0
VisiblyBreaksRule InnerRule stock job p = StartsWrong job.rules.inner p.prefix
VisiblyBreaksRule OuterRule stock job p = EndsWrong job.rules.symmetric job.rules.outer p.prefix
VisiblyBreaksRule SymmetricRule stock job p = ⊥
VisiblyBreaksRule BalancedRule stock job p = ⊥
VisiblyBreaksRule RunRule stock job p = RunsTooLong job.rules.run p.prefix
VisiblyBreaksRule FewestRule stock job p = HasTooFew job.rules.fewest p.n
VisiblyBreaksRule ThicknessRule stock job p = StaysTooThin stock job p
VisiblyBreaksRule CountsRule stock job p = CountsTooFew job p
VisiblyBreaksRule FitnessRule stock job p = IsUnfit stock job p.prefix

-- no rule is seen to be broken
abbrev pub SeemsWell : List Item → JobData → Partial → Type 0
SeemsWell stock job p = (rule : Rule) → ¬ VisiblyBreaksRule rule stock job p

-- a partial visibly breaks the rule of a number
abbrev pub VisiblyBreaks : ℕ → List Item → JobData → Partial → Type 0
VisiblyBreaks number stock job p = (rule : Rule) × (rule_number rule ≡ number) × VisiblyBreaksRule rule stock job p

-- ---- how large a search can grow

-- the sum of the powers of k from 0 to n
abbrev pub powers_to : ℕ → ℕ → ℕ
powers_to k zero = 1
powers_to k (suc n) = powers_to k n + k ^ suc n

-- the number of partials of all lengths from 1 to a limit whose prefix is not longer than what settles the schedule, where
-- there are k items: no search tree has more nodes
abbrev pub total_partials : Bool → (k limit : ℕ) → ℕ
total_partials symmetric k zero = 0
total_partials symmetric k (suc n) = total_partials symmetric k n + powers_to k (half_of symmetric (suc n))
