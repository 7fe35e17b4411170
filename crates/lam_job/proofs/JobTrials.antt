-- One job that asks every rule, over items that are unlike, tried rule by rule: each asks its own number of the job.
use Rattle.std.proofs.Common.{◌≡◌, refl, ap, ℕ, ◌<◌, ◌≤◌, pos, List, [], ◌∷◌, map, Some, true, false, inl, inr, lit<, lit≤, arith}
use Rattle.std.proofs.lemmas.List.Elements.{All-from_recursion}
use Rattle.lam_stock.specs.declared.item.Item.{Item}
use Rattle.lam_stock.specs.declared.item.ItemNo.{ItemNo}
use Rattle.lam_job.specs.JobData.{RuleData, JobData}
use Rattle.lam_job.specs.Schedule.{HoldsKnown, IsJobFor}
use Rattle.lam_job.specs.Rules.{Rule, InnerRule, OuterRule, SymmetricRule, BalancedRule, RunRule, FewestRule, ThicknessRule, CountsRule, FitnessRule, rule_number, KeepsRule, IsLeastBroken, times_of}
use Rattle.lam_job.specs.Partial.{VisiblyBreaksRule, cost_floor, greatest_thickness}
use Rattle.lam_job.proofs.Worked.{mat, glass, lean, number, count_of, square, hoop_case}
use Rattle.lam_job.proofs.RuleTrials.{number_at, lean_is_slanted}
use Rattle.lam_job.proofs.PartialTrials.{partial}

-- 5 mm for 10, 3 mm for 30, and 5 mm off the axes for 20; the last is neither the cheapest nor the dearest, nor the only thick one
abbrev unlike : List Item
unlike = mat ∷ lean ∷ glass ∷ []

-- `mat` inside, `glass` outside, at most two of an item in a row, three plies, 15 mm, and two of `mat`
abbrev all_rules : RuleData
all_rules = record {
  inner = Some (record { 0 = 1 });
  outer = Some (record { 0 = 4 });
  symmetric = false;
  balanced = true;
  run = Some 2;
  fewest = Some 3;
  thickness = Some (pos 15000);
  counts = count_of (number 0) 2 ∷ [];
}

-- a liner of `mat` that carries load, and a panel
abbrev all_asked : JobData
all_asked = record {
  limit = 9;
  liner = number 0 ∷ [];
  liner_in_wall = true;
  rules = all_rules;
  cases = hoop_case ∷ [];
  panels = square ∷ [];
}

-- the same with symmetric schedules, and with a liner that carries none
abbrev symmetric : JobData
symmetric = record all_asked { liner_in_wall = false; rules = record all_rules { symmetric = true } }

-- `mat` and then `glass`: 8 mm, and 13 mm with the liner
abbrev mat_glass : List ItemNo
mat_glass = number 0 ∷ number 2 ∷ []

abbrev Kept : JobData → Rule → List ItemNo → Type 0
Kept job rule listed = KeepsRule rule unlike job listed

-- ---- what is kept and what is broken

mat_lies_inside : Kept all_asked InnerRule mat_glass
mat_lies_inside e = let one : ◌≡◌ {A = ℕ} 1 0 = e in omega arith

glass_does_not : ¬ Kept all_asked InnerRule (number 2 ∷ number 0 ∷ [])
glass_does_not kept = kept refl

glass_lies_outside : Kept all_asked OuterRule mat_glass
glass_lies_outside e = let four : ◌≡◌ {A = ℕ} 4 0 = e in omega arith

mat_does_not : ¬ Kept all_asked OuterRule (number 2 ∷ number 0 ∷ [])
mat_does_not kept = kept refl

no_symmetry_is_asked : Kept all_asked SymmetricRule mat_glass
no_symmetry_is_asked e = let no : false ≡ true = e in cc

symmetry_is_asked : ¬ Kept symmetric SymmetricRule mat_glass
symmetry_is_asked kept = let e : ◌≡◌ {A = ℕ} 0 2 = ap (number_at 0) (kept refl) in omega arith

lean_wants_its_mirror : ¬ Kept all_asked BalancedRule (number 1 ∷ [])
lean_wants_its_mirror kept = let e : ◌≡◌ {A = ℕ} 1 0 = kept refl 0 (number 1) (lit< tt) lean_is_slanted in omega arith

three_in_a_row : ¬ Kept all_asked RunRule (number 0 ∷ number 0 ∷ number 0 ∷ [])
three_in_a_row kept = kept (number 0, 0, refl)

three_are_enough : Kept all_asked FewestRule (number 0 ∷ number 0 ∷ number 0 ∷ [])
three_are_enough = lit≤ tt

two_are_not : ¬ Kept all_asked FewestRule mat_glass
two_are_not kept = let n : 3 ≤ 2 = kept in omega (arith, n)

-- 15 mm are asked: 10 mm and the liner
thick_with_the_liner : Kept all_asked ThicknessRule (number 0 ∷ number 0 ∷ [])
thick_with_the_liner = record { le = tt }

thin_without_it : ¬ Kept symmetric ThicknessRule (number 0 ∷ number 0 ∷ [])
thin_without_it kept = kept.le

two_of_mat : Kept all_asked CountsRule (number 0 ∷ number 0 ∷ [])
two_of_mat = All-from_recursion (λ (count : ItemNo × ℕ). count.1 ≤ times_of count.0 (number 0 ∷ number 0 ∷ [])) (count_of (number 0) 2 ∷ []) (lit≤ tt, tt)

one_of_mat : ¬ Kept all_asked CountsRule mat_glass
one_of_mat kept = let n : 2 ≤ 1 = kept 0 (count_of (number 0) 2) (lit< tt) in omega (arith, n)

unfit_by_its_liner : ¬ Kept all_asked FitnessRule (number 0 ∷ [])
unfit_by_its_liner kept = (kept (lit< tt)).liner (lit< tt, refl)

unfit_by_its_order : ¬ Kept symmetric FitnessRule mat_glass
unfit_by_its_order kept = let e : ◌≡◌ {A = ℕ} 0 2 = ap (number_at 0) (kept (lit< tt)).symmetric in omega arith

-- ---- numbers

rules_are_numbered : map rule_number (InnerRule ∷ OuterRule ∷ SymmetricRule ∷ BalancedRule ∷ RunRule ∷ FewestRule ∷ ThicknessRule ∷ CountsRule ∷ FitnessRule ∷ [])
    ≡ 1 ∷ 2 ∷ 3 ∷ 4 ∷ 5 ∷ 6 ∷ 7 ∷ 8 ∷ 9 ∷ []
rules_are_numbered = refl

-- `glass` inside breaks rule 1, and no rule has a lesser number
inner_is_least_broken : IsLeastBroken 1 unlike all_asked (number 2 ∷ number 0 ∷ [])
inner_is_least_broken = record { broken = (InnerRule, refl, glass_does_not); least = λ other less broken. below_1 other less broken.0 broken.1 } where
  below_1 : (other : ℕ) → other < 1 → (rule : Rule) → rule_number rule ≡ other → ⊥
  below_1 other less InnerRule e = omega (arith, less, e)
  below_1 other less OuterRule e = omega (arith, less, e)
  below_1 other less SymmetricRule e = omega (arith, less, e)
  below_1 other less BalancedRule e = omega (arith, less, e)
  below_1 other less RunRule e = omega (arith, less, e)
  below_1 other less FewestRule e = omega (arith, less, e)
  below_1 other less ThicknessRule e = omega (arith, less, e)
  below_1 other less CountsRule e = omega (arith, less, e)
  below_1 other less FitnessRule e = omega (arith, less, e)

-- ---- visible breaks

abbrev Seen : JobData → Rule → ℕ → List ItemNo → Type 0
Seen job rule n prefix = VisiblyBreaksRule rule unlike job (partial n prefix)

glass_is_seen_inside : Seen all_asked InnerRule 3 (number 2 ∷ [])
glass_is_seen_inside is_in = is_in refl

mat_is_well_inside : ¬ Seen all_asked InnerRule 3 (number 0 ∷ [])
mat_is_well_inside wrong = wrong (λ e. let one : ◌≡◌ {A = ℕ} 1 0 = e in omega arith)

-- the last ply is seen at the first where schedules are symmetric, and not else
mat_is_seen_outside : Seen symmetric OuterRule 3 (number 0 ∷ [])
mat_is_seen_outside = (refl, λ is_in. is_in refl)

the_end_is_open : ¬ Seen all_asked OuterRule 3 (number 0 ∷ [])
the_end_is_open wrong = let e : false ≡ true = wrong.0 in cc

a_run_is_seen : Seen all_asked RunRule 5 (number 0 ∷ number 0 ∷ number 0 ∷ [])
a_run_is_seen = (number 0, 0, refl)

-- of three plies one is laid: three are enough, and two are not
three_may_do : ¬ Seen all_asked FewestRule 3 (number 0 ∷ [])
three_may_do few = let n : 3 < 3 = few in omega (arith, n)

two_are_seen : Seen all_asked FewestRule 2 (number 0 ∷ [])
two_are_seen = lit< tt

-- the liner's 5 mm, 3 mm of `glass`, and 5 mm at each open place
thickest_anywhere : greatest_thickness unlike all_asked (partial 3 (number 2 ∷ [])) ≡ pos 18000
thickest_anywhere = refl

thick_enough : ¬ Seen all_asked ThicknessRule 3 (number 2 ∷ [])
thick_enough thin = thin.lt

-- 3 mm, and 5 mm at the open place
thinness_is_seen : Seen symmetric ThicknessRule 3 (number 2 ∷ [])
thinness_is_seen = record { lt = tt }

missing_mats_are_seen : Seen all_asked CountsRule 2 (number 2 ∷ [])
missing_mats_are_seen = (0, count_of (number 0) 2, lit< tt, refl, lit< tt)

the_liner_is_seen : Seen all_asked FitnessRule 3 []
the_liner_is_seen = (lit< tt, inl (lit< tt, refl))

lean_is_seen : Seen symmetric FitnessRule 3 (number 1 ∷ [])
lean_is_seen = (lit< tt, inr (0, lean, lit< tt, refl, lean_is_slanted))

-- the liner's 10, 30 for `glass`, and 10 at each open place
floor_of_one_in_three : cost_floor unlike all_asked (partial 3 (number 2 ∷ [])) ≡ 60
floor_of_one_in_three = refl

-- ---- the items that a job names

liner_is_not_known : ¬ IsJobFor [] all_asked
liner_is_not_known known = let n : 0 < 0 = known.liner 0 (number 0) (lit< tt) in omega (arith, n)

-- the set of `glass` names the item of number 2
glass_is_not_known : ¬ HoldsKnown (mat ∷ lean ∷ []) (record { 0 = 4 })
glass_is_not_known known = let n : 2 < 2 = known 2 (λ e. let four : ◌≡◌ {A = ℕ} 4 0 = e in omega arith) in omega (arith, n)

sets_are_not_known : ¬ IsJobFor (mat ∷ lean ∷ []) all_asked
sets_are_not_known known = glass_is_not_known known.outer
