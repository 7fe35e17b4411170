-- How far values move, tried on worked numbers.
use Rattle.std.proofs.Common.{refl, pos}
use Rattle.lam_fraction.specs.Fraction.{whole, fraction, class_of, ◌+ℚ◌, ◌-ℚ◌, ◌*ℚ◌, ◌/ℚ◌, opposite, inverse, is_at_most}
use Rattle.lam_fraction.specs.inside.Quotient.{of_two, on_one, on_two}
use Rattle.lam_stock.specs.TsaiWu.{criterion, tsai_wu}
use Rattle.lam_job.proofs.Worked.{mat}
use Rattle.lam_job.proofs.OnePly.{hoop}
use Rattle.lam_narrow.specs.Close.{AreApart, IsSteep, StressesMoveBy, band}

-- the shear strength of 50 MPa is the least, and the moduli are 10000 MPa: strains that are a millionth apart move a stress by
-- at most 27/4000 of it at 5
moves_by_27_of_4000 : StressesMoveBy mat.lamina (whole (pos 5000)) (fraction (pos 1) (pos 1000000)) (fraction (pos 27) (pos 4000))
unfolding whole fraction class_of ◌*ℚ◌ ◌/ℚ◌ inverse is_at_most on_one on_two of_two
moves_by_27_of_4000 = record { xt = record { le = refl }; xc = record { le = refl }; yt = record { le = refl }; yc = record { le = refl }; s = record { le = refl } }

-- up to a value of 101/100 the slope is at most 18.8
steep_near_one : IsSteep (fraction (pos 1) (pos 100)) (fraction (pos 94) (pos 5))
unfolding whole fraction class_of ◌+ℚ◌ ◌*ℚ◌ ◌/ℚ◌ inverse is_at_most on_one on_two of_two
steep_near_one = record { positive = record { le = refl }; square = record { le = refl } }

-- between 20 and 19 MPa across, a twentieth of the strength at 5, the value moves from 1 to 361/400
twenty_and_nineteen : AreApart (band (fraction (pos 94) (pos 5)) (fraction (pos 1) (pos 20))) (tsai_wu mat.lamina (hoop (pos 19)) (whole (pos 5000))) (tsai_wu mat.lamina (hoop (pos 20)) (whole (pos 5000)))
unfolding criterion whole fraction class_of ◌+ℚ◌ ◌-ℚ◌ ◌*ℚ◌ ◌/ℚ◌ opposite inverse is_at_most on_one on_two of_two
twenty_and_nineteen = record { from = record { le = refl }; to = record { le = refl } }
