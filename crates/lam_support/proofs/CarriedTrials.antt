-- The definitions tried on worked numbers: what lies inside a surface, and the weighted forces there.
use Rattle.std.proofs.Common.{refl, pos, lit≤}
use Rattle.lam_fraction.specs.Fraction.{ℚ, whole, fraction, class_of, ◌+ℚ◌, ◌-ℚ◌, ◌*ℚ◌, ◌/ℚ◌, opposite, inverse, ◌≤ℚ◌, ◌<ℚ◌, is_at_most}
use Rattle.lam_fraction.specs.inside.Quotient.{of_two, on_one, on_two}
use Rattle.lam_direction.specs.Circle.{CirclePoint}
use Rattle.lam_stock.specs.declared.item.Lamina.{Lamina}
use Rattle.lam_stock.specs.PlyLaw.{OnAxis, Plus, Minus, cosine, sine}
use Rattle.lam_stock.specs.TsaiWu.{criterion, tsai_wu}
use Rattle.lam_support.specs.Carried.{IsInside, wall_stress, mean_stress, weighted}
use Rattle.lam_support.specs.declared.weight.Weight.{Weight}

unfoldable pub mat : Lamina
mat = record { e1 = pos 10000; e2 = pos 10000; n12 = pos 0; g12 = pos 5000; xt = pos 100000; xc = pos 100000; yt = pos 100000; yc = pos 100000; s = pos 50000; f12 = pos 0; t = pos 5000 }

unfoldable pub stressed : ℚ → ℚ → ℚ → OnAxis
stressed a b c = record { along = a; across = b; shear = c }

-- 100 MPa across lies on the surface, and 101 MPa outside
pub on_surface : IsInside mat (stressed (whole (pos 0)) (whole (pos 100)) (whole (pos 0)))
unfolding mat stressed criterion whole fraction class_of ◌+ℚ◌ ◌-ℚ◌ ◌*ℚ◌ ◌/ℚ◌ opposite inverse is_at_most on_one on_two of_two
on_surface = record { le = refl }

pub outside : whole (pos 1) <ℚ tsai_wu mat (stressed (whole (pos 0)) (whole (pos 101)) (whole (pos 0))) (whole (pos 1000))
unfolding mat stressed criterion whole fraction class_of ◌+ℚ◌ ◌-ℚ◌ ◌*ℚ◌ ◌/ℚ◌ opposite inverse is_at_most on_one on_two of_two
outside = record { lt = refl }

-- so does 70.71 MPa along and across, of which the sum passes what either carries alone
pub corner : IsInside mat (stressed (fraction (pos 7071) (pos 100)) (fraction (pos 7071) (pos 100)) (whole (pos 0)))
unfolding mat stressed criterion whole fraction class_of ◌+ℚ◌ ◌-ℚ◌ ◌*ℚ◌ ◌/ℚ◌ opposite inverse is_at_most on_one on_two of_two
corner = record { le = refl }

unfoldable pub lean : CirclePoint
lean = record { p = pos 3; q = pos 4; h = pos 5 }

unfoldable pub three : Weight
three = record { x = pos 1; y = pos 2; s = pos 3; x_range = lit≤ tt; y_range = lit≤ tt; s_range = lit≤ tt; some = lit≤ tt }

-- two fractions are the same number
abbrev Is : ℚ → ℚ → Type 0
Is a b = (a ≤ℚ b) × (b ≤ℚ a)

-- 100 MPa along fibres at the cosine 3/5 and the sine 4/5: 36 along the wall, 64 round it, and 48 in shear
pub force_of_ply : Is (weighted three (wall_stress lean Plus (stressed (whole (pos 100)) (whole (pos 0)) (whole (pos 0))))) (whole (pos 308))
unfolding three lean stressed cosine sine whole fraction class_of ◌+ℚ◌ ◌-ℚ◌ ◌*ℚ◌ ◌/ℚ◌ opposite inverse is_at_most on_one on_two of_two
force_of_ply = (record { le = refl }, record { le = refl })

-- and 50 MPa on the other side, which shears the other way: the mean of 308 and (18 + 2 32 - 3 24)
pub force_of_pair : Is (weighted three (mean_stress (wall_stress lean Plus (stressed (whole (pos 100)) (whole (pos 0)) (whole (pos 0)))) (wall_stress lean Minus (stressed (whole (pos 50)) (whole (pos 0)) (whole (pos 0)))))) (whole (pos 159))
unfolding three lean stressed cosine sine whole fraction class_of ◌+ℚ◌ ◌-ℚ◌ ◌*ℚ◌ ◌/ℚ◌ opposite inverse is_at_most on_one on_two of_two
force_of_pair = (record { le = refl }, record { le = refl })
