-- Each rule tried on a schedule that keeps it and on one that breaks it.
use Rattle.std.proofs.Common.{◌≡◌, refl, sym, ◌∙◌, ap, ℕ, zero, suc, pos, List, [], ◌∷◌, length, take, drop, replicate, Some, Option, IsSomeAnd, ◌≤◌, option_map, slice_get, Bool, true, false, inl, inr, lit<, lit≤, arith, unsigned_abs}
use Rattle.std.specs.Option.{unwrap_or}
use Rattle.std.proofs.lemmas.List.Elements.{All-from_recursion}
use Rattle.lam_stock.specs.declared.item.Kind.TheVariants.{Ply, Pair}
use Rattle.lam_stock.specs.declared.item.ItemNo.{ItemNo}
use Rattle.lam_job.specs.declared.rules.ItemSet.{ItemSet}
use Rattle.lam_job.specs.JobData.{JobData}
use Rattle.lam_job.specs.Rules.{KeepsInner, KeepsOuter, KeepsSymmetric, KeepsBalanced, KeepsRun, KeepsFewest, KeepsThickness, KeepsCounts, KeepsFitness, IsSlanted, IsBalanced, times_of, Breaks, SymmetricRule}
use Rattle.lam_job.proofs.Worked.{mat, lean, pair, catalogue, number, square, rules_of, job_of}

-- the number of the item at a place, and 9 past the end
abbrev pub number_at : ℕ → List ItemNo → ℕ
number_at k plies = unwrap_or (option_map (λ ply. ply.0) (slice_get plies k)) 9

-- the items of numbers 0 and 2
abbrev pub even_set : Option ItemSet
even_set = Some (record { 0 = 5 })

inner_kept : KeepsInner even_set (number 2 ∷ number 1 ∷ [])
inner_kept e = let four : ◌≡◌ {A = ℕ} 4 0 = e in omega arith

inner_broken : ¬ KeepsInner even_set (number 1 ∷ number 2 ∷ [])
inner_broken kept = kept refl

outer_kept : KeepsOuter even_set (number 1 ∷ number 2 ∷ [])
outer_kept e = let four : ◌≡◌ {A = ℕ} 4 0 = e in omega arith

outer_broken : ¬ KeepsOuter even_set (number 2 ∷ number 1 ∷ [])
outer_broken kept = kept refl

symmetric_kept : KeepsSymmetric true (number 0 ∷ number 1 ∷ number 0 ∷ [])
symmetric_kept e = refl

symmetric_broken : ¬ KeepsSymmetric true (number 0 ∷ number 1 ∷ [])
symmetric_broken kept = let e : ◌≡◌ {A = ℕ} 0 1 = ap (number_at 0) (kept refl) in omega arith

-- ---- balance: `lean` and its mirror image, with `mat` and `pair`, which want none

pub lean_is_slanted : IsSlanted lean
lean_is_slanted =
    (refl, λ on. elim on [ inl e ↦ (let d : ◌≡◌ {A = ℕ} 3 0 = ap unsigned_abs e in omega arith) | inr e ↦ (let d : ◌≡◌ {A = ℕ} 4 0 = ap unsigned_abs e in omega arith) ])

pub mat_is_straight : ¬ IsSlanted mat
mat_is_straight s = s.1 (inr refl)

pair_is_straight : ¬ IsSlanted pair
pair_is_straight s = let e : Pair ≡ Ply = s.0 in cc

abbrev mixed : List ItemNo
mixed = number 1 ∷ number 0 ∷ number 3 ∷ number 2 ∷ []

balanced_kept : KeepsBalanced catalogue true mixed
balanced_kept e =
    All-from_recursion (λ (ply : ItemNo). IsSomeAnd (slice_get catalogue ply.0) IsSlanted → IsBalanced catalogue mixed ply) mixed
    ((λ s. refl), ((λ s. refl), ((λ s. absurd (pair_is_straight s)), ((λ s. refl), tt))))

balanced_broken : ¬ KeepsBalanced catalogue true (number 1 ∷ number 0 ∷ number 1 ∷ [])
balanced_broken kept = let e : ◌≡◌ {A = ℕ} 2 0 = kept refl 0 (number 1) (lit< tt) lean_is_slanted in omega arith

-- ---- runs

abbrev two_and_two : List ItemNo
two_and_two = number 0 ∷ number 0 ∷ number 1 ∷ number 0 ∷ number 0 ∷ []

pub nothing_left : (from : ℕ) → drop {A = ItemNo} from [] ≡ []
nothing_left zero = refl
nothing_left (suc from) = refl

no_three : (item : ItemNo) (from : ℕ) → take 3 (drop from two_and_two) ≡ replicate 3 item → ⊥
no_three item zero e = let a : 0 ≡ item.0 = ap (number_at 0) e in let b : 1 ≡ item.0 = ap (number_at 2) e in omega arith
no_three item (suc zero) e = let a : 0 ≡ item.0 = ap (number_at 0) e in let b : 1 ≡ item.0 = ap (number_at 1) e in omega arith
no_three item (suc (suc zero)) e = let a : 1 ≡ item.0 = ap (number_at 0) e in let b : 0 ≡ item.0 = ap (number_at 1) e in omega arith
no_three item (suc (suc (suc zero))) e = let n : ◌≡◌ {A = ℕ} 2 3 = ap length e in omega arith
no_three item (suc (suc (suc (suc zero)))) e = let n : ◌≡◌ {A = ℕ} 1 3 = ap length e in omega arith
no_three item (suc (suc (suc (suc (suc from))))) e =
    let n : ◌≡◌ {A = ℕ} 0 3 = ap (λ rest. length (take 3 rest)) (sym (nothing_left from)) ∙ ap length e in omega arith

run_kept : KeepsRun (Some 2) two_and_two
run_kept run = no_three run.0 run.1 run.2

run_broken : ¬ KeepsRun (Some 2) (number 1 ∷ number 0 ∷ number 0 ∷ number 0 ∷ [])
run_broken kept = kept (number 0, 1, refl)

-- ---- numbers of plies, and thickness

fewest_kept : KeepsFewest (Some 3) (number 0 ∷ number 0 ∷ number 0 ∷ [])
fewest_kept = lit≤ tt

fewest_broken : ¬ KeepsFewest (Some 3) (number 0 ∷ number 0 ∷ [])
fewest_broken kept = omega (arith, kept)

thickness_kept : KeepsThickness (Some (pos 10000)) (mat ∷ mat ∷ [])
thickness_kept = record { le = tt }

thickness_broken : ¬ KeepsThickness (Some (pos 10001)) (mat ∷ mat ∷ [])
thickness_broken kept = kept.le

-- two of the item of number 1
abbrev two_asked : List (ItemNo × ℕ)
two_asked = record { 0 = number 1; 1 = 2 } ∷ []

counts_kept : KeepsCounts two_asked (number 1 ∷ number 0 ∷ number 1 ∷ [])
counts_kept = All-from_recursion (λ (count : ItemNo × ℕ). count.1 ≤ times_of count.0 (number 1 ∷ number 0 ∷ number 1 ∷ [])) two_asked (lit≤ tt, tt)

counts_broken : ¬ KeepsCounts two_asked (number 1 ∷ number 0 ∷ number 0 ∷ [])
counts_broken kept = let e : 2 ≤ 1 = kept 0 (record { 0 = number 1; 1 = 2 }) (lit< tt) in omega (arith, e)

-- ---- fitness, with a panel, and a liner in the wall or out of it

abbrev panel_job : (liner : List ItemNo) (liner_in_wall : Bool) → JobData
panel_job liner in_wall = job_of liner in_wall (rules_of false (number 0)) (square ∷ [])

fitness_kept : KeepsFitness catalogue (panel_job (number 1 ∷ []) false) (number 0 ∷ number 3 ∷ number 0 ∷ [])
fitness_kept asked = record {
  liner = λ l. let e : false ≡ true = l.1 in cc;
  symmetric = refl;
  straight = All-from_recursion (λ i. ¬ IsSlanted i) (mat ∷ pair ∷ mat ∷ []) (mat_is_straight, (pair_is_straight, (mat_is_straight, tt)));
}

-- the same with the liner in the wall
fitness_broken_by_the_liner : ¬ KeepsFitness catalogue (panel_job (number 1 ∷ []) true) (number 0 ∷ number 3 ∷ number 0 ∷ [])
fitness_broken_by_the_liner kept = (kept (lit< tt)).liner (lit< tt, refl)

fitness_broken_by_the_order : ¬ KeepsFitness catalogue (panel_job [] true) (number 0 ∷ number 3 ∷ [])
fitness_broken_by_the_order kept = let e : ◌≡◌ {A = ℕ} 0 3 = ap (number_at 0) (kept (lit< tt)).symmetric in omega arith

fitness_broken_by_a_slanted_ply : ¬ KeepsFitness catalogue (panel_job [] true) (number 1 ∷ [])
fitness_broken_by_a_slanted_ply kept = (kept (lit< tt)).straight 0 lean (lit< tt) lean_is_slanted

-- ---- the number that a broken rule is named by

unsymmetric_breaks_rule_3 : Breaks 3 catalogue (job_of [] false (rules_of true (number 0)) []) (number 0 ∷ number 1 ∷ [])
unsymmetric_breaks_rule_3 = (SymmetricRule, refl, symmetric_broken)
