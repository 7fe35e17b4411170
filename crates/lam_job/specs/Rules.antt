-- The nine rules of a job. Each speaks of the listed plies, from the inside to the outside. A rule that the job does not ask
-- is kept.
use Rattle.std.specs.Prelude.{◌≡◌, ℕ, ℤ, suc, ◌≤◌, ◌<◌, ◌==◌, ◌≤ℤ◌, List, reverse, length, take, drop, replicate, count_by, All, slice_get, Bool, IsTrue, IfSome, IsSomeAnd, IsBitSet, Option}
use Rattle.lam_direction.specs.Circle.{IsOnAxis}
use Rattle.lam_stock.specs.declared.item.Item.{Item}
use Rattle.lam_stock.specs.declared.item.ItemNo.{ItemNo}
use Rattle.lam_stock.specs.declared.item.Kind.TheVariants.{Ply}
use Rattle.lam_stock.specs.Likeness.{are_alike, are_mirrors}
use Rattle.lam_job.specs.declared.rules.ItemSet.{ItemSet}
use Rattle.lam_job.specs.JobData.{JobData}
use Rattle.lam_job.specs.Schedule.{items_of, wall_of}
use Rattle.lam_job.specs.Wall.{wall_thickness}

-- ---- words

abbrev pub IsIn : ItemSet → ItemNo → Type 0
IsIn set ply = IsBitSet set.0 ply.0

abbrev pub first_ply : List ItemNo → Option ItemNo
first_ply plies = slice_get plies 0

abbrev pub last_ply : List ItemNo → Option ItemNo
last_ply plies = first_ply (reverse plies)

-- the same from both ends
abbrev pub IsPalindrome : List ItemNo → Type 0
IsPalindrome plies = plies ≡ reverse plies

-- some item stands n times in a row
abbrev pub HasRun : ℕ → List ItemNo → Type 0
HasRun n plies = (item : ItemNo) × (from : ℕ) × (take n (drop from plies) ≡ replicate n item)

-- how often an item stands
abbrev pub times_of : ItemNo → List ItemNo → ℕ
times_of item plies = count_by (λ ply. ply.0 == item.0) plies

-- a ply whose fibres lie along no axis of the wall: bending it along x or y twists it
abbrev pub IsSlanted : Item → Type 0
IsSlanted i = (i.kind ≡ Ply) × (¬ IsOnAxis i.dir)

-- ---- the rules

-- the first ply is one of those that may stand inside
abbrev pub KeepsInner : Option ItemSet → List ItemNo → Type 0
KeepsInner asked listed = IfSome asked (λ set. IsSomeAnd (first_ply listed) (IsIn set))

-- the last ply is one of those that may stand outside
abbrev pub KeepsOuter : Option ItemSet → List ItemNo → Type 0
KeepsOuter asked listed = IfSome asked (λ set. IsSomeAnd (last_ply listed) (IsIn set))

-- the schedule is symmetric
abbrev pub KeepsSymmetric : Bool → List ItemNo → Type 0
KeepsSymmetric asked listed = IsTrue asked → IsPalindrome listed

-- as many listed plies are the mirror image of a slanted one as are like it
abbrev pub IsBalanced : List Item → List ItemNo → ItemNo → Type 0
IsBalanced stock listed ply =
    count_by (λ other. are_alike stock other.0 ply.0) listed ≡ count_by (λ other. are_mirrors stock other.0 ply.0) listed

-- each slanted ply is balanced
abbrev pub KeepsBalanced : List Item → Bool → List ItemNo → Type 0
KeepsBalanced stock asked listed =
    IsTrue asked → All (λ ply. IsSomeAnd (slice_get stock ply.0) IsSlanted → IsBalanced stock listed ply) listed

-- no item stands too often in a row
abbrev pub KeepsRun : Option ℕ → List ItemNo → Type 0
KeepsRun asked listed = IfSome asked (λ most. ¬ HasRun (suc most) listed)

-- there are enough plies
abbrev pub KeepsFewest : Option ℕ → List ItemNo → Type 0
KeepsFewest asked listed = IfSome asked (λ least. least ≤ length listed)

-- the wall is thick enough
abbrev pub KeepsThickness : Option ℤ → List Item → Type 0
KeepsThickness asked wall = IfSome asked (λ least. least ≤ℤ wall_thickness wall)

-- of each named item there are enough plies
abbrev pub KeepsCounts : List (ItemNo × ℕ) → List ItemNo → Type 0
KeepsCounts asked listed = All (λ count. count.1 ≤ times_of count.0 listed) asked

-- the liner carries load and is not empty
abbrev pub LinerCarries : JobData → Type 0
LinerCarries job = (0 < length job.liner) × IsTrue job.liner_in_wall

-- the wall is a plate that the buckling formula speaks of: the same from both faces, without a slanted ply
pub record Fit (stock : List Item) (job : JobData) (listed : List ItemNo) : Type 0 where
  pub liner : ¬ LinerCarries job
  pub symmetric : IsPalindrome listed
  pub straight : All (λ i. ¬ IsSlanted i) (items_of stock listed)

-- where a panel is asked, the wall is fit for it
abbrev pub KeepsFitness : List Item → JobData → List ItemNo → Type 0
KeepsFitness stock job listed = 0 < length job.panels → Fit stock job listed

-- ---- all of them

pub data Rule : Type 0 where
  InnerRule : Rule
  OuterRule : Rule
  SymmetricRule : Rule
  BalancedRule : Rule
  RunRule : Rule
  FewestRule : Rule
  ThicknessRule : Rule
  CountsRule : Rule
  FitnessRule : Rule

-- the number by which a report names a rule
abbrev pub rule_number : Rule → ℕ
rule_number InnerRule = 1
rule_number OuterRule = 2
rule_number SymmetricRule = 3
rule_number BalancedRule = 4
rule_number RunRule = 5
rule_number FewestRule = 6
rule_number ThicknessRule = 7
rule_number CountsRule = 8
rule_number FitnessRule = 9

abbrev pub KeepsRule : Rule → List Item → JobData → List ItemNo → Type 0
KeepsRule InnerRule stock job listed = KeepsInner job.rules.inner listed
KeepsRule OuterRule stock job listed = KeepsOuter job.rules.outer listed
KeepsRule SymmetricRule stock job listed = KeepsSymmetric job.rules.symmetric listed
KeepsRule BalancedRule stock job listed = KeepsBalanced stock job.rules.balanced listed
KeepsRule RunRule stock job listed = KeepsRun job.rules.run listed
KeepsRule FewestRule stock job listed = KeepsFewest job.rules.fewest listed
KeepsRule ThicknessRule stock job listed = KeepsThickness job.rules.thickness (wall_of stock job listed)
KeepsRule CountsRule stock job listed = KeepsCounts job.rules.counts listed
KeepsRule FitnessRule stock job listed = KeepsFitness stock job listed

-- a schedule keeps the nine rules
abbrev pub Keeps : List Item → JobData → List ItemNo → Type 0
Keeps stock job listed = (rule : Rule) → KeepsRule rule stock job listed

-- a schedule breaks the rule of a number
abbrev pub Breaks : ℕ → List Item → JobData → List ItemNo → Type 0
Breaks number stock job listed = (rule : Rule) × (rule_number rule ≡ number) × (¬ KeepsRule rule stock job listed)

-- the number is that of the first rule in their order that the schedule breaks
pub record IsLeastBroken (number : ℕ) (stock : List Item) (job : JobData) (listed : List ItemNo) : Type 0 where
  pub broken : Breaks number stock job listed
  pub least : (other : ℕ) → other < number → ¬ Breaks other stock job listed
