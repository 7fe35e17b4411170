-- Schedules that hang, tried on worked numbers: one ply of `mat`.
use Rattle.std.proofs.Common.{◌≡◌, refl, ℕ, ◌≤◌, ◌<◌, pos, [], ◌∷◌, Some, true, false, lit<, lit≤, arith}
use mathlib.Core.Quot.{sound}
use Rattle.std.proofs.lemmas.List.Elements.{All-from_recursion, All-nil}
use Rattle.lam_fraction.specs.Fraction.{whole, fraction, class_of, ◌+ℚ◌, ◌-ℚ◌, ◌*ℚ◌, ◌/ℚ◌, opposite, inverse, is_at_most, ◌≤ℚ◌}
use Rattle.lam_fraction.specs.inside.Quotient.{of_two, on_one, on_two}
use Rattle.lam_stock.specs.declared.item.ItemNo.{ItemNo}
use Rattle.lam_stock.specs.PlyLaw.{Plus, reduced_11, reduced_12, reduced_22, reduced_66, cosine, sine}
use Rattle.lam_stock.specs.TsaiWu.{criterion, RatioAtLeast}
use Rattle.lam_job.specs.JobData.{PanelData, JobData}
use Rattle.lam_job.specs.LoadOf.{load_of}
use Rattle.lam_job.specs.LoadRange.{WallInRange}
use Rattle.lam_job.specs.Strength.{OuterFace, PlyRatio}
use Rattle.lam_job.specs.Plate.{stiffness_11, stiffness_22, buckling_load, panel_load, PanelAtLeast}
use Rattle.lam_job.specs.Rules as rules
use Rattle.lam_job.specs.Rules.{Keeps, IsSlanted}
use Rattle.lam_job.specs.Near.{just_below, just_above, NearPly, Hangs, AtPly, AtPanel}
use Rattle.lam_job.proofs.Worked.{mat, square, hoop_case, tied_case, heavy_case, no_rules, plain_job}
use Rattle.lam_job.proofs.EveryWave.{load_at_the_least, stands_in_every_wave}
use Rattle.lam_job.proofs.RuleTrials.{mat_is_straight}
use Rattle.lam_job.proofs.OnePly.{alone, placed, hoop, ratio_of_mat, stretched, stretched_at_24, keeps_no_rule}
use Rattle.lam_job.proofs.NearTrials.{a_tie_holds_just_below, inside, one_mat, one_case, near_a_tie, not_near_from_above}

-- 20 MPa is a fifth of the strength: at a factor of 5 the schedule hangs at its ply
hangs_at_a_tie : Hangs alone (one_case tied_case) one_mat (AtPly (inside 0 Plus))
hangs_at_a_tie = record {
  rules = keeps_no_rule 9 (tied_case ∷ []);
  range = All-from_recursion (λ case. WallInRange alone alone (load_of case.kind)) (tied_case ∷ [])
      (record { nx = record { le = tt }; ny = record { le = tt }; nxy = record { le = tt }; mx = record { le = tt }; my = record { le = tt }; mxy = record { le = tt } }, tt);
  near = near_a_tie;
  factors = record {
    cases = All-from_recursion (λ case. (ply : ℕ) → PlyRatio alone (load_of case.kind) ply (just_below case.factor)) (tied_case ∷ []) (ratio_of_mat (pos 20) (just_below (pos 5000)) a_tie_holds_just_below, tt);
    panels = All-nil (λ panel. PanelAtLeast alone panel (just_below panel.factor));
  };
}

-- 18 MPa is not near, and so it does not hang
stands_and_does_not_hang : ¬ Hangs alone (one_case hoop_case) one_mat (AtPly (inside 0 Plus))
stands_and_does_not_hang hangs = not_near_from_above hangs.near

-- ---- what breaks a rule does not hang: the same where two plies are asked

abbrev asks_two_plies : JobData
asks_two_plies = record (one_case tied_case) { rules = record no_rules { fewest = Some 2 } }

-- it is near the factor all the same
still_near_a_tie : NearPly alone asks_two_plies one_mat (inside 0 Plus)
still_near_a_tie = near_a_tie

-- and does not hang
breaks_a_rule_and_does_not_hang : ¬ Hangs alone asks_two_plies one_mat (AtPly (inside 0 Plus))
breaks_a_rule_and_does_not_hang hangs = let n : 2 ≤ 1 = hangs.rules rules.FewestRule in omega (arith, n)

-- ---- what clearly fails another case does not hang: 120000 N/m are 24 MPa, and its ratio 4.166

abbrev two_cases : JobData
two_cases = plain_job 9 (tied_case ∷ heavy_case ∷ [])

-- it is near the factor of the first case
near_in_the_first_case : NearPly alone two_cases one_mat (inside 0 Plus)
near_in_the_first_case = near_a_tie

-- and does not hang
fails_a_case_and_does_not_hang : ¬ Hangs alone two_cases one_mat (AtPly (inside 0 Plus))
unfolding criterion whole fraction class_of ◌+ℚ◌ ◌-ℚ◌ ◌*ℚ◌ ◌/ℚ◌ opposite inverse is_at_most on_one on_two of_two reduced_11 reduced_12 reduced_22 reduced_66 cosine sine
fails_a_case_and_does_not_hang hangs =
    let e : false ≡ true = (hangs.factors.cases 1 heavy_case (lit< tt) 0 placed refl OuterFace Plus tt (stretched (pos 24)) stretched_at_24).le in cc

-- ---- at a panel: one `mat` on 500 by 500 mm stands an eighth of what two do, 2.6317 times 6250 N/m

abbrev light_square : PanelData
light_square = record square { load = pos 6250; factor = pos 2632 }

abbrev with_a_panel : JobData
with_a_panel = record (one_case hoop_case) { panels = light_square ∷ [] }

-- it is stiff, and across as much as along
mat_is_stiff : whole (pos 0) ≤ℚ stiffness_11 alone
unfolding whole fraction class_of ◌+ℚ◌ ◌-ℚ◌ ◌*ℚ◌ ◌/ℚ◌ opposite inverse is_at_most on_one on_two of_two reduced_11 reduced_12 reduced_22 reduced_66 cosine sine
mat_is_stiff = record { le = refl }

mat_is_even : stiffness_22 alone ≡ stiffness_11 alone
unfolding whole fraction class_of ◌+ℚ◌ ◌-ℚ◌ ◌*ℚ◌ ◌/ℚ◌ opposite inverse on_one on_two of_two reduced_11 reduced_12 reduced_22 reduced_66 cosine sine
mat_is_even = sound refl

-- a half wave as long as the width allows 199/200 of 2.632
least_allows_just_below : panel_load light_square (just_below (pos 2632)) ≤ℚ load_at_the_least alone light_square
unfolding whole fraction class_of ◌+ℚ◌ ◌-ℚ◌ ◌*ℚ◌ ◌/ℚ◌ opposite inverse is_at_most on_one on_two of_two reduced_11 reduced_12 reduced_22 reduced_66 cosine sine
least_allows_just_below = record { le = refl }

-- so every number of half waves does
stands_just_below : PanelAtLeast alone light_square (just_below (pos 2632))
stands_just_below = stands_in_every_wave alone light_square (just_below (pos 2632)) (record { lt = tt }) (record { lt = tt }) mat_is_stiff mat_is_even least_allows_just_below

-- and one half wave does not stand 201/200 of it
buckles_just_above : buckling_load alone light_square 1 ≤ℚ panel_load light_square (just_above (pos 2632))
unfolding whole fraction class_of ◌+ℚ◌ ◌-ℚ◌ ◌*ℚ◌ ◌/ℚ◌ opposite inverse is_at_most on_one on_two of_two reduced_11 reduced_12 reduced_22 reduced_66 cosine sine
buckles_just_above = record { le = refl }

-- its ply stands 199/200 of 5 in the case
hoop_stands_just_below : RatioAtLeast mat.lamina (hoop (pos 18)) (just_below (pos 5000))
unfolding criterion whole fraction class_of ◌+ℚ◌ ◌-ℚ◌ ◌*ℚ◌ ◌/ℚ◌ opposite inverse is_at_most on_one on_two of_two
hoop_stands_just_below = record { le = refl }

-- one ply along the axis is fit for a panel
keeps_with_a_panel : Keeps alone with_a_panel one_mat
keeps_with_a_panel rules.InnerRule = tt
keeps_with_a_panel rules.OuterRule = tt
keeps_with_a_panel rules.SymmetricRule = λ e. refl
keeps_with_a_panel rules.BalancedRule = λ e. absurd (let n : false ≡ true = e in cc)
keeps_with_a_panel rules.RunRule = tt
keeps_with_a_panel rules.FewestRule = tt
keeps_with_a_panel rules.ThicknessRule = tt
keeps_with_a_panel rules.CountsRule = All-nil (λ (count : ItemNo × ℕ). count.1 ≤ rules.times_of count.0 one_mat)
keeps_with_a_panel rules.FitnessRule = λ panels. record {
  liner = λ l. let n : 0 < 0 = l.0 in omega (arith, n);
  symmetric = refl;
  straight = All-from_recursion (λ i. ¬ IsSlanted i) alone (mat_is_straight, tt);
}

-- it hangs at its panel
hangs_at_a_panel : Hangs alone with_a_panel one_mat (AtPanel 0)
hangs_at_a_panel = record {
  rules = keeps_with_a_panel;
  range = All-from_recursion (λ case. WallInRange alone alone (load_of case.kind)) (hoop_case ∷ [])
      (record { nx = record { le = tt }; ny = record { le = tt }; nxy = record { le = tt }; mx = record { le = tt }; my = record { le = tt }; mxy = record { le = tt } }, tt);
  near = record { stands = stands_just_below; buckles = (1, lit≤ tt, buckles_just_above) };
  factors = record {
    cases = All-from_recursion (λ case. (ply : ℕ) → PlyRatio alone (load_of case.kind) ply (just_below case.factor)) (hoop_case ∷ []) (ratio_of_mat (pos 18) (just_below (pos 5000)) hoop_stands_just_below, tt);
    panels = All-from_recursion (λ panel. PanelAtLeast alone panel (just_below panel.factor)) (light_square ∷ []) (stands_just_below, tt);
  };
}
