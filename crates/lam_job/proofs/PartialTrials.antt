-- Partial schedules, their bounds and their visible breaks, tried on worked numbers.
use Rattle.std.proofs.Common.{◌≡◌, refl, sym, ◌∙◌, ap, subst, ℕ, zero, suc, ◌+◌, ◌<◌, ◌≤◌, pos, List, [], ◌∷◌, length, take, drop, replicate, slice_index_or, Some, Bool, true, false, inl, inr, lit<, lit≤, arith}
use Rattle.std.proofs.lemmas.List.Elements.{All-from_recursion}
use Rattle.lam_stock.specs.declared.item.ItemNo.{ItemNo}
use Rattle.lam_job.specs.JobData.{JobData}
use Rattle.lam_job.specs.Schedule.{wall_of, cost_of}
use Rattle.lam_job.specs.Rules.{times_of}
use Rattle.lam_job.specs.Design.{IsSequence}
use Rattle.lam_job.specs.Partial.{Partial, Completes, IsFull, half, fixed_plies, open_places, cheapest, cost_floor, greatest_thickness, StartsWrong, EndsWrong, RunsTooLong, HasTooFew, StaysTooThin, CountsTooFew, IsUnfit, total_partials}
use Rattle.lam_job.proofs.Worked.{mat, lean, pair, stiff, catalogue, number, square, rules_of, job_of}
use Rattle.lam_job.proofs.RuleTrials.{number_at, even_set, lean_is_slanted, nothing_left}

-- ---- a job with symmetric schedules and a liner of `stiff`, which carries load or not; it asks four plies of number 1

abbrev lined : (liner_in_wall : Bool) → JobData
lined in_wall = job_of (number 4 ∷ []) in_wall (rules_of true (number 1)) []

-- the same with free schedules, and with a panel
abbrev free : JobData
free = job_of (number 4 ∷ []) true (rules_of false (number 1)) (square ∷ [])

abbrev pub partial : ℕ → List ItemNo → Partial
partial n prefix = record { n = n; prefix = prefix }

abbrev two_of_five : Partial
two_of_five = partial 5 (number 0 ∷ number 1 ∷ [])

liner_out_of_the_wall : wall_of catalogue (lined false) (number 0 ∷ []) ≡ mat ∷ []
liner_out_of_the_wall = refl

liner_inside_of_the_wall : wall_of catalogue (lined true) (number 0 ∷ []) ≡ stiff ∷ mat ∷ []
liner_inside_of_the_wall = refl

-- 30 for the liner and 10 for `mat`
liner_costs_in_both : (in_wall : Bool) → cost_of catalogue (lined in_wall) (number 0 ∷ []) ≡ 40
liner_costs_in_both true = refl
liner_costs_in_both false = refl

-- ---- fixed plies, and what completes

mirrored : fixed_plies (lined false) two_of_five ≡ number 0 ∷ number 1 ∷ number 1 ∷ number 0 ∷ []
mirrored = refl

middle_once : fixed_plies (lined false) (partial 5 (number 0 ∷ number 1 ∷ number 3 ∷ [])) ≡ number 0 ∷ number 1 ∷ number 3 ∷ number 1 ∷ number 0 ∷ []
middle_once = refl

not_mirrored : fixed_plies free two_of_five ≡ number 0 ∷ number 1 ∷ []
not_mirrored = refl

three_settle_five : IsFull (lined false) (partial 5 (number 0 ∷ number 1 ∷ number 3 ∷ []))
three_settle_five = refl

two_settle_four : half (lined false) 4 ≡ 2
two_settle_four = refl

four_settle_four : half free 4 ≡ 4
four_settle_four = refl

abbrev completion : List ItemNo
completion = number 0 ∷ number 1 ∷ number 3 ∷ number 1 ∷ number 0 ∷ []

completes : Completes catalogue (lined false) two_of_five completion
completes = record {
  sequence = record {
    some = lit≤ tt;
    short = lit≤ tt;
    known = All-from_recursion (λ (ply : ItemNo). ply.0 < length catalogue) completion (lit< tt, (lit< tt, (lit< tt, (lit< tt, (lit< tt, tt)))));
  };
  long = refl;
  begins = refl;
  symmetric = λ e. refl;
}

unsymmetric_does_not : ¬ Completes catalogue (lined false) two_of_five (number 0 ∷ number 1 ∷ number 3 ∷ number 0 ∷ number 1 ∷ [])
unsymmetric_does_not c = let e : ◌≡◌ {A = ℕ} 0 1 = ap (number_at 0) (c.symmetric refl) in omega arith

another_beginning_does_not : ¬ Completes catalogue (lined false) two_of_five (number 0 ∷ number 3 ∷ number 1 ∷ number 3 ∷ number 0 ∷ [])
another_beginning_does_not c = let e : ◌≡◌ {A = ℕ} 3 1 = ap (number_at 1) c.begins in omega arith

-- the catalogue has the numbers 0 to 4
unknown_item : ¬ IsSequence catalogue (lined false) (number 5 ∷ [])
unknown_item s = let e : 5 < 5 = s.known 0 (number 5) (lit< tt) in omega (arith, e)

empty_list : ¬ IsSequence catalogue (lined false) []
empty_list s = let e : 1 ≤ 0 = s.some in omega (arith, e)

-- ---- bounds

-- 30 for the liner, 60 for the four fixed plies, and 10 for the middle one
floor_of_two_in_five : cost_floor catalogue (lined false) two_of_five ≡ 100
floor_of_two_in_five = refl

cheapest_comes_later : cheapest (stiff ∷ lean ∷ mat ∷ pair ∷ []) ≡ 10
cheapest_comes_later = refl

five_of_5_mm : greatest_thickness catalogue (lined false) two_of_five ≡ pos 25000
five_of_5_mm = refl

with_the_liner : greatest_thickness catalogue (lined true) two_of_five ≡ pos 30000
with_the_liner = refl

-- ---- visible breaks

starts_wrong : StartsWrong even_set (number 1 ∷ [])
starts_wrong is_in = is_in refl

starts_well : ¬ StartsWrong even_set (number 2 ∷ [])
starts_well wrong = wrong (λ e. let four : ◌≡◌ {A = ℕ} 4 0 = e in omega arith)

nothing_starts_wrong : ¬ StartsWrong even_set []
nothing_starts_wrong wrong = wrong

ends_wrong : EndsWrong true even_set (number 1 ∷ [])
ends_wrong = (refl, starts_wrong)

end_is_open : ¬ EndsWrong false even_set (number 1 ∷ [])
end_is_open wrong = let e : false ≡ true = wrong.0 in cc

runs_too_long : RunsTooLong (Some 2) (number 1 ∷ number 0 ∷ number 0 ∷ number 0 ∷ [])
runs_too_long = (number 0, 1, refl)

no_three_in_two : (item : ItemNo) (from : ℕ) → take 3 (drop from (number 0 ∷ number 0 ∷ [])) ≡ replicate 3 item → ⊥
no_three_in_two item zero e = let n : ◌≡◌ {A = ℕ} 2 3 = ap length e in omega arith
no_three_in_two item (suc zero) e = let n : ◌≡◌ {A = ℕ} 1 3 = ap length e in omega arith
no_three_in_two item (suc (suc from)) e =
    let n : ◌≡◌ {A = ℕ} 0 3 = ap (λ rest. length (take 3 rest)) (sym (nothing_left from)) ∙ ap length e in omega arith

runs_well : ¬ RunsTooLong (Some 2) (number 0 ∷ number 0 ∷ [])
runs_well run = no_three_in_two run.0 run.1 run.2

too_few : HasTooFew (Some 3) 2
too_few = lit< tt

enough : ¬ HasTooFew (Some 3) 3
enough few = omega (arith, few)

-- 25001 µm are asked
too_thin : StaysTooThin catalogue (lined false) two_of_five
too_thin = record { lt = tt }

thick_with_the_liner : ¬ StaysTooThin catalogue (lined true) two_of_five
thick_with_the_liner thin = thin.lt

-- four plies of number 1 are asked: two are fixed, and one place is open
count_too_few : CountsTooFew (lined false) two_of_five
count_too_few = (0, record { 0 = number 1; 1 = 4 }, lit< tt, refl, lit< tt)

-- in ten places six are open
count_may_do : ¬ CountsTooFew (lined false) (partial 10 (number 0 ∷ number 1 ∷ []))
count_may_do few = enough_open few.0 few.1 few.2 few.3 few.4 where
  enough_open : (k : ℕ) (x : ItemNo × ℕ) → k < 1 → slice_index_or (record { 0 = number 1; 1 = 4 } ∷ []) k x ≡ x
      → times_of x.0 (fixed_plies (lined false) (partial 10 (number 0 ∷ number 1 ∷ []))) + open_places (lined false) (partial 10 (number 0 ∷ number 1 ∷ [])) < x.1 → ⊥
  enough_open zero x h e less =
      let l : 8 < 4 = subst (λ (y : ItemNo × ℕ). times_of y.0 (fixed_plies (lined false) (partial 10 (number 0 ∷ number 1 ∷ []))) + 6 < y.1) (sym e) less in omega (arith, l)
  enough_open (suc k) x h e less = omega (arith, h)

unfit_by_the_liner : IsUnfit catalogue free []
unfit_by_the_liner = (lit< tt, inl (lit< tt, refl))

unfit_by_a_slanted_ply : IsUnfit catalogue (job_of [] true (rules_of false (number 0)) (square ∷ [])) (number 1 ∷ [])
unfit_by_a_slanted_ply = (lit< tt, inr (0, lean, lit< tt, refl, lean_is_slanted))

fit_where_no_panel_is_asked : ¬ IsUnfit catalogue (lined true) (number 1 ∷ [])
fit_where_no_panel_is_asked unfit = let e : 0 < 0 = unfit.0 in omega (arith, e)

-- ---- how large a search can grow

tank_search : total_partials true 5 9 ≡ 5854
tank_search = refl

-- 1 + 2, and 1 + 2 + 4
free_search : total_partials false 2 2 ≡ 10
free_search = refl
