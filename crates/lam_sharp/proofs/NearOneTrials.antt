-- What near 1 means, tried on worked numbers.
use Rattle.std.proofs.Common.{◌≡◌, refl, true, false, pos}
use Rattle.lam_fraction.specs.Fraction.{whole, fraction, class_of, ◌+ℚ◌, ◌-ℚ◌, ◌*ℚ◌, ◌/ℚ◌, opposite, inverse, is_at_most, ◌<ℚ◌}
use Rattle.lam_fraction.specs.inside.Quotient.{of_two, on_one, on_two}
use Rattle.lam_stock.specs.PlyLaw.{Plus}
use Rattle.lam_stock.specs.TsaiWu.{criterion, tsai_wu}
use Rattle.lam_job.proofs.Worked.{mat, tied_case}
use Rattle.lam_job.proofs.OnePly.{alone, hoop, at_each_face}
use Rattle.lam_job.proofs.NearTrials.{inside, one_mat, one_case}
use Rattle.lam_job.specs.Strength.{InnerFace}
use Rattle.lam_sharp.specs.NearOne.{IsNearOne, past_ratio}
use Rattle.lam_sharp.specs.NearPlaces.{NearOneAt}

-- 20 MPa is just a fifth of the strength: the value at 5 is 1
a_tie_is_near_one : IsNearOne mat.lamina (hoop (pos 20)) (pos 5000)
unfolding criterion whole fraction class_of ◌+ℚ◌ ◌-ℚ◌ ◌*ℚ◌ ◌/ℚ◌ opposite inverse is_at_most on_one on_two of_two
a_tie_is_near_one = record { from = record { le = refl }; to = record { le = refl } }

-- 18 MPa is not near
eighteen_is_not_near : ¬ IsNearOne mat.lamina (hoop (pos 18)) (pos 5000)
unfolding criterion whole fraction class_of ◌+ℚ◌ ◌-ℚ◌ ◌*ℚ◌ ◌/ℚ◌ opposite inverse is_at_most on_one on_two of_two
eighteen_is_not_near near = let e : false ≡ true = near.from.le in cc

-- so a wall of one `mat` under 100000 N/m is near 1 at its inner face
a_tied_wall_is_near_one : NearOneAt alone (one_case tied_case) one_mat (inside 0 Plus)
a_tied_wall_is_near_one = (tt, at_each_face (λ l t. IsNearOne l t (pos 5000)) (pos 20) a_tie_is_near_one InnerFace Plus tt)

-- a tie at 5 that is printed as 4.999 is above 1 at 201/200 of it and two thousandths more
a_tie_is_above_past_4999 : whole (pos 1) <ℚ tsai_wu mat.lamina (hoop (pos 20)) (past_ratio (pos 4999))
unfolding criterion whole fraction class_of ◌+ℚ◌ ◌-ℚ◌ ◌*ℚ◌ ◌/ℚ◌ opposite inverse is_at_most on_one on_two of_two
a_tie_is_above_past_4999 = record { lt = refl }
