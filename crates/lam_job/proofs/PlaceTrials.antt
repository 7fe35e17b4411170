-- Places, panels and cases by number, where they are there and where they are not.
use Rattle.std.proofs.Common.{◌≡◌, refl, sym, ap, subst, ℕ, pos, [], ◌∷◌, Some, None, true, false}
use Rattle.std.specs.Option.{unwrap_or}
use Rattle.lam_fraction.specs.Fraction.{whole, fraction, class_of, ◌+ℚ◌, ◌-ℚ◌, ◌*ℚ◌, ◌/ℚ◌, opposite, inverse, is_at_most}
use Rattle.lam_fraction.specs.inside.Quotient.{of_two, on_one, on_two}
use Rattle.lam_stock.specs.PlyLaw.{Side, Plus, Minus, reduced_11, reduced_12, reduced_22, reduced_66, cosine, sine}
use Rattle.lam_stock.specs.TsaiWu.{criterion}
use Rattle.lam_job.specs.Wall.{Placed}
use Rattle.lam_job.specs.LoadRange.{OutOfRange}
use Rattle.lam_job.specs.Strength.{Face, HasSide, InnerFace, OuterFace, PlyPlace, PlyRatio, FailsAt, ComesBefore}
use Rattle.lam_job.specs.Plate.{Buckles}
use Rattle.lam_job.proofs.Worked.{pair, square, hoop_case_of, hoop_case_at_6, forces}
use Rattle.lam_job.proofs.LaminateStrainTrials.{sheared, pair_alone, a_pair_shears}
use Rattle.lam_job.proofs.OnePly.{alone, placed, stretched, stretched_at_18}
use Rattle.lam_job.proofs.NearTrials.{inside, one_mat, one_case, one_panel}

-- ---- one ply of `mat` at 18 MPa, which stands 5.555 times that

it_fails_6 : FailsAt alone (one_case hoop_case_at_6) one_mat (inside 0 Plus)
unfolding criterion whole fraction class_of ◌+ℚ◌ ◌-ℚ◌ ◌*ℚ◌ ◌/ℚ◌ opposite inverse is_at_most on_one on_two of_two reduced_11 reduced_12 reduced_22 reduced_66 cosine sine
it_fails_6 meets = let e : false ≡ true = (meets hoop_case_at_6 refl placed refl tt (stretched (pos 18)) stretched_at_18).le in cc

-- a ply has no second side, the wall no second ply, and the job no second case
no_second_side_fails : ¬ FailsAt alone (one_case hoop_case_at_6) one_mat (inside 0 Minus)
no_second_side_fails fails = fails (λ c e p there has. absurd (no_minus p there has)) where
  no_minus : (p : Placed) → Some placed ≡ Some p → HasSide p.item.kind Minus → ⊥
  no_minus p there has = subst (λ (q : Placed). HasSide q.item.kind Minus) (sym (ap (λ o. unwrap_or o placed) there)) has

no_second_ply_fails : ¬ FailsAt alone (one_case hoop_case_at_6) one_mat (record (inside 0 Plus) { ply = 1 })
no_second_ply_fails fails = fails (λ c e p there. absurd (let no : None ≡ Some p = there in cc))

no_second_case_fails : ¬ FailsAt alone (one_case hoop_case_at_6) one_mat (inside 1 Plus)
no_second_case_fails fails = fails

-- ---- a pair is asked on both sides: at 18 MPa of shear its minus side does not stand 20 times that

the_minus_side_fails : ¬ PlyRatio (pair ∷ []) (forces (pos 0) (pos 0) (pos 360000)) 0 (whole (pos 20000))
unfolding criterion whole fraction class_of ◌+ℚ◌ ◌-ℚ◌ ◌*ℚ◌ ◌/ℚ◌ opposite inverse is_at_most on_one on_two of_two reduced_11 reduced_12 reduced_22 reduced_66 cosine sine
the_minus_side_fails meets = let e : false ≡ true = (meets pair_alone refl OuterFace Minus tt sheared a_pair_shears).le in cc

-- ---- panels and cases

no_second_panel_buckles : ¬ Buckles alone (one_panel square) one_mat 1
no_second_panel_buckles buckles = buckles

-- 6250000 N/m are the most that 5 mm of `mat` are computed for
a_case_is_out_of_range : OutOfRange alone (one_case (hoop_case_of (pos 6250001) (pos 1000))) one_mat 0
a_case_is_out_of_range r = r.ny.le

no_second_case_is : ¬ OutOfRange alone (one_case (hoop_case_of (pos 6250001) (pos 1000))) one_mat 1
no_second_case_is out = out

-- ---- the order of places

abbrev at : (case ply : ℕ) → Face → Side → PlyPlace
at case ply face side = record { case = case; ply = ply; face = face; side = side }

cases_come_first : ComesBefore (at 0 5 OuterFace Minus) (at 1 0 InnerFace Plus)
cases_come_first = refl

then_plies : ComesBefore (at 1 2 OuterFace Minus) (at 1 3 InnerFace Plus)
then_plies = refl

then_faces : ComesBefore (at 1 2 InnerFace Minus) (at 1 2 OuterFace Plus)
then_faces = refl

then_sides : ComesBefore (at 1 2 OuterFace Plus) (at 1 2 OuterFace Minus)
then_sides = refl
