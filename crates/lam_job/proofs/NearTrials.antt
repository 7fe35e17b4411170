-- What near a factor means, tried on worked numbers.
use Rattle.std.proofs.Common.{◌≡◌, refl, true, false, ℕ, pos, ℤ, [], ◌∷◌, List, lit≤}
use mathlib.Core.Quot.{sound}
use Rattle.lam_fraction.specs.Fraction.{whole, fraction, class_of, ◌+ℚ◌, ◌-ℚ◌, ◌*ℚ◌, ◌/ℚ◌, opposite, inverse, is_at_most, ◌≤ℚ◌, ◌<ℚ◌}
use Rattle.lam_fraction.specs.inside.Quotient.{of_two, on_one, on_two}
use Rattle.lam_fraction.proofs.Rationals.{transitive}
use Rattle.lam_stock.specs.declared.item.ItemNo.{ItemNo}
use Rattle.lam_stock.specs.PlyLaw.{Side, Plus, Minus, reduced_11, reduced_12, reduced_22, reduced_66, cosine, sine}
use Rattle.lam_stock.specs.TsaiWu.{criterion, tsai_wu, RatioAtLeast}
use Rattle.lam_job.specs.JobData.{CaseData, PanelData, JobData}
use Rattle.lam_job.specs.Strength.{InnerFace, PlyPlace}
use Rattle.lam_job.specs.Near.{just_below, just_above, NearPly, NearPanel}
use Rattle.lam_job.specs.Plate.{panel_load, buckling_load}
use Rattle.lam_job.proofs.Worked.{mat, two_mats, number, square, hoop_case, hoop_case_at_6, tied_case, no_rules, job_of, plain_job}
use Rattle.lam_job.proofs.EveryWave.{load_at_the_least, stands_in_every_wave}
use Rattle.lam_job.proofs.PlateTrials.{mats_are_stiff, mats_are_even, square_stands_2631}
use Rattle.lam_job.proofs.OnePly.{alone, hoop, at_each_face, stretched, stretched_at_18}

-- 20 MPa is just a fifth of the strength: near the factor 5 from both sides
pub a_tie_holds_just_below : RatioAtLeast mat.lamina (hoop (pos 20)) (just_below (pos 5000))
unfolding criterion whole fraction class_of ◌+ℚ◌ ◌-ℚ◌ ◌*ℚ◌ ◌/ℚ◌ opposite inverse is_at_most on_one on_two of_two
a_tie_holds_just_below = record { le = refl }

pub a_tie_fails_just_above : whole (pos 1) ≤ℚ tsai_wu mat.lamina (hoop (pos 20)) (just_above (pos 5000))
unfolding criterion whole fraction class_of ◌+ℚ◌ ◌-ℚ◌ ◌*ℚ◌ ◌/ℚ◌ opposite inverse is_at_most on_one on_two of_two
a_tie_fails_just_above = record { le = refl }

-- 18 MPa is not near: it holds above, too
far_below_the_strength : tsai_wu mat.lamina (hoop (pos 18)) (just_above (pos 5000)) <ℚ whole (pos 1)
unfolding criterion whole fraction class_of ◌+ℚ◌ ◌-ℚ◌ ◌*ℚ◌ ◌/ℚ◌ opposite inverse is_at_most on_one on_two of_two
far_below_the_strength = record { lt = refl }

below_5 : just_below (pos 5000) ≡ whole (pos 4975)
unfolding whole fraction class_of ◌*ℚ◌ ◌/ℚ◌ inverse on_one on_two of_two
below_5 = sound refl

above_5 : just_above (pos 5000) ≡ whole (pos 5025)
unfolding whole fraction class_of ◌*ℚ◌ ◌/ℚ◌ inverse on_one on_two of_two
above_5 = sound refl

-- 2.632 times 50000 N/m
load_of_a_panel : panel_load square (whole (pos 2632)) ≡ whole (pos 131600)
unfolding whole fraction class_of ◌*ℚ◌ ◌/ℚ◌ inverse on_one on_two of_two
load_of_a_panel = sound refl

-- ---- near at a ply: one `mat`

-- the inner face of the first ply under a case
abbrev pub inside : (case : ℕ) → Side → PlyPlace
inside case side = record { case = case; ply = 0; face = InnerFace; side = side }

-- the schedule of one ply
abbrev pub one_mat : List ItemNo
one_mat = number 0 ∷ []

-- a job of one case
abbrev pub one_case : CaseData → JobData
one_case case = plain_job 9 (case ∷ [])

-- 100000 N/m are 20 MPa in every field, and near 5
pub near_a_tie : NearPly alone (one_case tied_case) one_mat (inside 0 Plus)
near_a_tie =
    (tt, at_each_face (λ l t. RatioAtLeast l t (just_below (pos 5000)) × (whole (pos 1) ≤ℚ tsai_wu l t (just_above (pos 5000)))) (pos 20) (a_tie_holds_just_below, a_tie_fails_just_above) InnerFace Plus tt)

-- 90000 N/m are 18 MPa, which stands 5.555 times: it does not fail by 201/200 of 5
pub not_near_from_above : ¬ NearPly alone (one_case hoop_case) one_mat (inside 0 Plus)
unfolding criterion whole fraction class_of ◌+ℚ◌ ◌-ℚ◌ ◌*ℚ◌ ◌/ℚ◌ opposite inverse is_at_most on_one on_two of_two reduced_11 reduced_12 reduced_22 reduced_66 cosine sine
not_near_from_above near = let e : false ≡ true = (near.1 (stretched (pos 18)) stretched_at_18).1.le in cc

-- and fails before 199/200 of 6
not_near_from_below : ¬ NearPly alone (one_case hoop_case_at_6) one_mat (inside 0 Plus)
unfolding criterion whole fraction class_of ◌+ℚ◌ ◌-ℚ◌ ◌*ℚ◌ ◌/ℚ◌ opposite inverse is_at_most on_one on_two of_two reduced_11 reduced_12 reduced_22 reduced_66 cosine sine
not_near_from_below near = let e : false ≡ true = (near.1 (stretched (pos 18)) stretched_at_18).0.le in cc

-- a ply has no second side
not_near_on_a_second_side : ¬ NearPly alone (one_case tied_case) one_mat (inside 0 Minus)
not_near_on_a_second_side near = near.0

-- and the job no second case
not_near_under_a_second_case : ¬ NearPly alone (one_case tied_case) one_mat (inside 1 Plus)
not_near_under_a_second_case near = near

-- ---- near at a panel: two `mat` on 500 by 500 mm, which buckle at 2.6317 times the load

abbrev two_plies : List ItemNo
two_plies = number 0 ∷ number 0 ∷ []

abbrev square_at : (factor : ℤ) → PanelData
square_at factor = record square { factor = factor }

abbrev pub one_panel : PanelData → JobData
one_panel panel = job_of [] false no_rules (panel ∷ [])

abbrev square_at_2632 : PanelData
square_at_2632 = square_at (pos 2632)

abbrev square_at_3000 : PanelData
square_at_3000 = square_at (pos 3000)

-- a half wave as long as the width allows 199/200 of 2.632
least_allows_just_below_2632 : panel_load square_at_2632 (just_below (pos 2632)) ≤ℚ load_at_the_least two_mats square_at_2632
unfolding whole fraction class_of ◌+ℚ◌ ◌-ℚ◌ ◌*ℚ◌ ◌/ℚ◌ opposite inverse is_at_most on_one on_two of_two reduced_11 reduced_12 reduced_22 reduced_66 cosine sine
least_allows_just_below_2632 = record { le = refl }

-- and one half wave does not stand 201/200 of it
buckles_just_above_2632 : buckling_load two_mats square_at_2632 1 ≤ℚ panel_load square_at_2632 (just_above (pos 2632))
unfolding whole fraction class_of ◌+ℚ◌ ◌-ℚ◌ ◌*ℚ◌ ◌/ℚ◌ opposite inverse is_at_most on_one on_two of_two reduced_11 reduced_12 reduced_22 reduced_66 cosine sine
buckles_just_above_2632 = record { le = refl }

-- so it is near 2.632
near_at_a_panel : NearPanel alone (one_panel square_at_2632) two_plies 0
near_at_a_panel = record {
  stands = stands_in_every_wave two_mats square_at_2632 (just_below (pos 2632)) (record { lt = tt }) (record { lt = tt }) mats_are_stiff mats_are_even least_allows_just_below_2632;
  buckles = (1, lit≤ tt, buckles_just_above_2632);
}

-- 2.631 times the load is more than 201/200 of twice the load
more_than_just_above_2 : panel_load square (whole (pos 2631)) ≤ℚ panel_load square (just_above (pos 2000)) → ⊥
unfolding whole fraction class_of ◌+ℚ◌ ◌-ℚ◌ ◌*ℚ◌ ◌/ℚ◌ opposite inverse is_at_most on_one on_two of_two reduced_11 reduced_12 reduced_22 reduced_66 cosine sine
more_than_just_above_2 h = let e : false ≡ true = h.le in cc

-- so it is not near 2, in any number of half waves
not_near_at_a_panel_from_above : ¬ NearPanel alone (one_panel square) two_plies 0
not_near_at_a_panel_from_above near =
    let m = near.buckles.0 in
    more_than_just_above_2 (transitive (square_stands_2631 m near.buckles.1) near.buckles.2)

-- and not near 3, which it does not stand 199/200 of
not_near_at_a_panel_from_below : ¬ NearPanel alone (one_panel square_at_3000) two_plies 0
unfolding whole fraction class_of ◌+ℚ◌ ◌-ℚ◌ ◌*ℚ◌ ◌/ℚ◌ opposite inverse is_at_most on_one on_two of_two reduced_11 reduced_12 reduced_22 reduced_66 cosine sine
not_near_at_a_panel_from_below near = let e : false ≡ true = (near.stands 1 (lit≤ tt)).le in cc
