-- The definitions tried on worked numbers.
use Rattle.std.proofs.Common.{refl}
use Rattle.std.specs.Prelude.{ℤ, pos}
use Rattle.lam_fraction.specs.Fraction.{whole, fraction, class_of, ◌+ℚ◌, ◌-ℚ◌, ◌*ℚ◌, ◌/ℚ◌, opposite, inverse, ◌≤ℚ◌, ◌<ℚ◌, is_at_most}
use Rattle.lam_fraction.specs.inside.Quotient.{of_two, on_one, on_two}
use Rattle.lam_stock.specs.declared.item.Lamina.{Lamina}
use Rattle.lam_stock.specs.PlyLaw.{OnAxis}
use Rattle.lam_stock.specs.TsaiWu.{criterion, tsai_wu, RatioAtLeast}

unfoldable pub mat : Lamina
mat = record { e1 = pos 10000; e2 = pos 10000; n12 = pos 0; g12 = pos 5000; xt = pos 100000; xc = pos 100000; yt = pos 100000; yc = pos 100000; s = pos 50000; f12 = pos 0; t = pos 5000 }

unfoldable pub hoop : ℤ → OnAxis
hoop n = record { along = whole (pos 0); across = whole n; shear = whole (pos 0) }

pub meets_5555 : RatioAtLeast mat (hoop (pos 18)) (whole (pos 5555))
unfolding mat hoop criterion whole fraction class_of ◌+ℚ◌ ◌-ℚ◌ ◌*ℚ◌ ◌/ℚ◌ opposite inverse is_at_most on_one on_two of_two
meets_5555 = record { le = refl }

pub fails_5556 : whole (pos 1) <ℚ tsai_wu mat (hoop (pos 18)) (whole (pos 5556))
unfolding mat hoop criterion whole fraction class_of ◌+ℚ◌ ◌-ℚ◌ ◌*ℚ◌ ◌/ℚ◌ opposite inverse is_at_most on_one on_two of_two
fails_5556 = record { lt = refl }

pub exactly_5 : tsai_wu mat (hoop (pos 20)) (whole (pos 5000)) ≤ℚ whole (pos 1)
unfolding mat hoop criterion whole fraction class_of ◌+ℚ◌ ◌-ℚ◌ ◌*ℚ◌ ◌/ℚ◌ opposite inverse is_at_most on_one on_two of_two
exactly_5 = record { le = refl }
