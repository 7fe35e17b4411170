-- A least design, and a job that nothing meets, tried on worked numbers: one ply of `mat` under 90000 N/m round the
-- wall, which is 18 MPa and a ratio of 5.555, at a factor of 5 and at one of 6.
use Rattle.std.proofs.Common.{◌≡◌, refl, ℕ, zero, suc, ◌+◌, ◌<◌, ◌≤◌, pos, List, [], ◌∷◌, length, true, false, fold, lit<, lit≤, arith}
use Rattle.std.proofs.lemmas.List.Elements.{All-from_recursion, All-nil}
use Rattle.lam_fraction.specs.Fraction.{whole, fraction, class_of, ◌+ℚ◌, ◌-ℚ◌, ◌*ℚ◌, ◌/ℚ◌, opposite, inverse, is_at_most}
use Rattle.lam_fraction.specs.inside.Quotient.{of_two, on_one, on_two}
use Rattle.lam_stock.specs.declared.item.Item.{Item}
use Rattle.lam_stock.specs.declared.item.ItemNo.{ItemNo}
use Rattle.lam_stock.specs.PlyLaw.{Plus, reduced_11, reduced_12, reduced_22, reduced_66, cosine, sine}
use Rattle.lam_stock.specs.TsaiWu.{criterion, RatioAtLeast}
use Rattle.lam_job.specs.JobData.{JobData}
use Rattle.lam_job.specs.LoadOf.{load_of}
use Rattle.lam_job.specs.Schedule.{cost_of, items_of}
use Rattle.lam_job.specs.LoadRange.{WallInRange}
use Rattle.lam_job.specs.Strength.{OuterFace, PlyRatio}
use Rattle.lam_job.specs.Plate.{PanelAtLeast}
use Rattle.lam_job.specs.Design.{Admissible, IsSequence, Least, NoneMeets}
use Rattle.lam_job.proofs.Worked.{mat, number, hoop_case, hoop_case_at_6, plain_job}
use Rattle.lam_job.proofs.OnePly.{alone, placed, round, hoop, ratio_of_mat, stretched, stretched_at_18, keeps_no_rule}

-- ---- what its plies stand

-- 18 MPa are less than a fifth of the strength
hoop_meets_5 : RatioAtLeast mat.lamina (hoop (pos 18)) (whole (pos 5000))
unfolding criterion whole fraction class_of ◌+ℚ◌ ◌-ℚ◌ ◌*ℚ◌ ◌/ℚ◌ opposite inverse is_at_most on_one on_two of_two
hoop_meets_5 = record { le = refl }

-- and more than a sixth
mat_fails_6 : ¬ PlyRatio alone (round (pos 18)) 0 (whole (pos 6000))
unfolding criterion whole fraction class_of ◌+ℚ◌ ◌-ℚ◌ ◌*ℚ◌ ◌/ℚ◌ opposite inverse is_at_most on_one on_two of_two reduced_11 reduced_12 reduced_22 reduced_66 cosine sine
mat_fails_6 meets = let e : false ≡ true = (meets placed refl OuterFace Plus tt (stretched (pos 18)) stretched_at_18).le in cc

-- ---- the design

-- schedules of so many plies at most, that are asked a factor of 5
abbrev asks_5 : (limit : ℕ) → JobData
asks_5 limit = plain_job limit (hoop_case ∷ [])

-- one ply meets that
admissible : (limit : ℕ) → Admissible alone (asks_5 limit) (number 0 ∷ [])
admissible limit = record {
  rules = keeps_no_rule limit (hoop_case ∷ []);
  range = All-from_recursion (λ case. WallInRange alone alone (load_of case.kind)) (hoop_case ∷ [])
      (record { nx = record { le = tt }; ny = record { le = tt }; nxy = record { le = tt }; mx = record { le = tt }; my = record { le = tt }; mxy = record { le = tt } }, tt);
  factors = record {
    cases = All-from_recursion (λ case. (ply : ℕ) → PlyRatio alone (load_of case.kind) ply (whole case.factor)) (hoop_case ∷ []) (ratio_of_mat (pos 18) (whole (pos 5000)) hoop_meets_5, tt);
    panels = All-nil (λ panel. PanelAtLeast alone panel (whole panel.factor));
  };
}

-- costs only add up
sum_only_grows : (items : List Item) (a : ℕ) → a ≤ fold (λ (sum : ℕ) (i : Item). sum + i.cost) a items
sum_only_grows [] a = omega arith
sum_only_grows (i ∷ rest) a = let more : a + i.cost ≤ fold (λ (sum : ℕ) (j : Item). sum + j.cost) (a + i.cost) rest = sum_only_grows rest (a + i.cost) in omega (arith, more)

-- so a schedule costs what its first ply does, or more
any_costs_10 : (n : ℕ) (rest : List ItemNo) → n < 1 → 10 ≤ cost_of alone (asks_5 9) (number n ∷ rest)
any_costs_10 zero rest h = sum_only_grows (items_of alone rest) 10
any_costs_10 (suc n) rest h = absurd (omega (arith, h))

no_less : (other : List ItemNo) → IsSequence alone (asks_5 9) other → 10 ≤ cost_of alone (asks_5 9) other
no_less [] s = absurd (let n : 1 ≤ 0 = s.some in omega (arith, n))
no_less (ply ∷ rest) s = any_costs_10 ply.0 rest (s.known 0 ply (omega arith))

-- one ply is least, at 10
least : Least alone (asks_5 9) (number 0 ∷ [])
least = record {
  sequence = record { some = lit≤ tt; short = lit≤ tt; known = All-from_recursion (λ (ply : ItemNo). ply.0 < 1) (number 0 ∷ []) (lit< tt, tt) };
  admissible = admissible 9;
  cheapest = λ other s meets. no_less other s;
}

-- ---- none meets: where a schedule lists one ply at most, and `mat` is all there is

-- schedules of one ply that are asked a factor of 6
abbrev asks_6 : JobData
asks_6 = plain_job 1 (hoop_case_at_6 ∷ [])

-- one ply does not meet that
one_ply_fails_6 : (n : ℕ) → n < 1 → ¬ Admissible alone asks_6 (number n ∷ [])
one_ply_fails_6 zero h meets = mat_fails_6 (meets.factors.cases 0 hoop_case_at_6 (lit< tt) 0)
one_ply_fails_6 (suc n) h meets = omega (arith, h)

-- at 6 none meets, since one ply stands 5.555 times the load
none_meets_6 : NoneMeets alone asks_6
none_meets_6 [] s meets = let n : 1 ≤ 0 = s.some in omega (arith, n)
none_meets_6 (ply ∷ []) s meets = one_ply_fails_6 ply.0 (s.known 0 ply (omega arith)) meets
none_meets_6 (ply ∷ more ∷ rest) s meets = let n : suc (suc (length rest)) ≤ 1 = s.short in omega (arith, n)

-- at 5 one meets
one_meets_5 : ¬ NoneMeets alone (asks_5 1)
one_meets_5 none = none (number 0 ∷ []) (record { some = lit≤ tt; short = lit≤ tt; known = All-from_recursion (λ (ply : ItemNo). ply.0 < 1) (number 0 ∷ []) (lit< tt, tt) }) (admissible 1)
