-- Which rules a schedule keeps, for which cases its wall is in range, and whether it is fit for a panel, as tests.
use Rattle.std.specs.Prelude.{ℕ, zero, suc, ◌^◌, ℤ, pos, ◌*ℤ◌, Bool, true, false, not, ◌&&◌, ◌||◌, nat_lt, nat_le, int_le, ◌==◌, bit_and, unsigned_abs, if◌then◌else◌, List, [], ◌∷◌, length, reverse, take, replicate, count_by, slice_get, Option, Some, None}
use Rattle.std.specs.Cmp.Lexicographic.{pointwise}
use Rattle.std.specs.List.{list_all}
use Rattle.std.specs.Ordering.{int_eq}
use Rattle.lam_stock.specs.declared.item.Item.{Item}
use Rattle.lam_stock.specs.declared.item.ItemNo.{ItemNo}
use Rattle.lam_stock.specs.Likeness.{are_alike, are_mirrors, is_ply}
use Rattle.lam_stock.specs.Scale.{scale_of}
use Rattle.lam_job.specs.declared.load.Load.{Load}
use Rattle.lam_job.specs.declared.rules.ItemSet.{ItemSet}
use Rattle.lam_job.specs.JobData.{CaseData, JobData}
use Rattle.lam_job.specs.LoadOf.{load_of}
use Rattle.lam_job.specs.Rules.{Rule, InnerRule, OuterRule, SymmetricRule, BalancedRule, RunRule, FewestRule, ThicknessRule, CountsRule, FitnessRule, first_ply, last_ply, times_of}
use Rattle.lam_job.specs.Schedule.{items_of, wall_of}
use Rattle.lam_job.specs.Wall.{wall_thickness}
use Rattle.lam_rules.specs.inside.RuleOf.{rule_of}

-- ---- rules

-- a test of what is asked; true where nothing is
abbrev pub if_asked : {A : Type 0} → (A → Bool) → Option A → Bool
if_asked test None = true
if_asked test (Some a) = test a

abbrev pub is_in : ItemSet → Option ItemNo → Bool
is_in set None = false
is_in set (Some ply) = not (bit_and set.0 (2 ^ ply.0) == 0)

abbrev pub same_plies : List ItemNo → List ItemNo → Bool
same_plies a b = pointwise (λ x y. x.0 == y.0) a b

abbrev pub is_slanted : Item → Bool
is_slanted i = is_ply i.kind && not (int_eq i.dir.p (pos 0) || int_eq i.dir.q (pos 0))

abbrev pub slanted_at : Option Item → Bool
slanted_at None = false
slanted_at (Some i) = is_slanted i

abbrev pub is_balanced : List Item → List ItemNo → ItemNo → Bool
is_balanced stock listed ply =
    count_by (λ other. are_alike stock other.0 ply.0) listed == count_by (λ other. are_mirrors stock other.0 ply.0) listed

-- some item stands n times in a row
abbrev pub has_run : ℕ → List ItemNo → Bool
has_run n [] = false
has_run n (x ∷ rest) = same_plies (take n (x ∷ rest)) (replicate n x) || has_run n rest

-- the wall is a plate that the buckling formula speaks of
unfoldable pub is_fit : List Item → JobData → List ItemNo → Bool
is_fit stock job listed =
    not (nat_lt 0 (length job.liner) && job.liner_in_wall)
    && (same_plies listed (reverse listed) && list_all (λ i. not (is_slanted i)) (items_of stock listed))

unfoldable pub is_kept : Rule → List Item → JobData → List ItemNo → Bool
is_kept InnerRule stock job listed = if_asked (λ set. is_in set (first_ply listed)) job.rules.inner
is_kept OuterRule stock job listed = if_asked (λ set. is_in set (last_ply listed)) job.rules.outer
is_kept SymmetricRule stock job listed = not job.rules.symmetric || same_plies listed (reverse listed)
is_kept BalancedRule stock job listed =
    not job.rules.balanced || list_all (λ ply. not (slanted_at (slice_get stock ply.0)) || is_balanced stock listed ply) listed
is_kept RunRule stock job listed = if_asked (λ most. not (has_run (suc most) listed)) job.rules.run
is_kept FewestRule stock job listed = if_asked (λ least. nat_le least (length listed)) job.rules.fewest
is_kept ThicknessRule stock job listed = if_asked (λ least. int_le least (wall_thickness (wall_of stock job listed))) job.rules.thickness
is_kept CountsRule stock job listed = list_all (λ count. nat_le count.1 (times_of count.0 listed)) job.rules.counts
is_kept FitnessRule stock job listed = not (nat_lt 0 (length job.panels)) || is_fit stock job listed

-- the first rule that is broken, of so many from a number on
unfoldable pub first_broken_from : (left number : ℕ) → List Item → JobData → List ItemNo → Option ℕ
first_broken_from zero number stock job listed = None
first_broken_from (suc left) number stock job listed =
    if is_kept (rule_of number) stock job listed then first_broken_from left (suc number) stock job listed else Some number

-- of all nine
abbrev pub first_broken : List Item → JobData → List ItemNo → Option ℕ
first_broken stock job listed = first_broken_from 9 1 stock job listed

-- ---- the range of loads

abbrev pub size_within : ℤ → ℤ → Bool
size_within bound z = int_le (pos (unsigned_abs z)) bound

unfoldable pub load_in_range : (floor h : ℤ) → Load → Bool
load_in_range floor h load =
    size_within (floor *ℤ h) load.nx
    && (size_within (floor *ℤ h) load.ny
    && (size_within (floor *ℤ h) load.nxy
    && (size_within (floor *ℤ (h *ℤ h)) (pos 8000 *ℤ load.mx)
    && (size_within (floor *ℤ (h *ℤ h)) (pos 8000 *ℤ load.my) && size_within (floor *ℤ (h *ℤ h)) (pos 8000 *ℤ load.mxy)))))

-- the first case that is out of range, from a number on
unfoldable pub first_out_from : (floor h : ℤ) → ℕ → List CaseData → Option ℕ
first_out_from floor h number [] = None
first_out_from floor h number (case ∷ rest) =
    if load_in_range floor h (load_of case.kind) then first_out_from floor h (suc number) rest else Some number

abbrev pub first_out : List Item → JobData → List ItemNo → Option ℕ
first_out stock job listed =
    first_out_from (scale_of stock).floor (wall_thickness (wall_of stock job listed)) 0 job.cases
