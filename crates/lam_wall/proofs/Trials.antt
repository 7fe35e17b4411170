-- The definitions tried on the worked wall of two plies, the outer one twice as stiff as the inner one.
use Rattle.std.proofs.Common.{◌≡◌, refl, ℤ, pos, [], ◌∷◌}
use Rattle.std.specs.Prelude.{neg_ℤ, List}
use Rattle.lam_fraction.specs.Fraction.{ℚ, whole, fraction, class_of, ◌+ℚ◌, ◌-ℚ◌, ◌*ℚ◌, ◌/ℚ◌, opposite, inverse, is_at_most}
use Rattle.lam_fraction.specs.inside.Quotient.{of_two, on_one, on_two}
use Rattle.lam_fraction.proofs.Rationals.{antisym}
use Rattle.lam_stock.specs.declared.item.Item.{Item}
use Rattle.lam_stock.specs.declared.item.Kind.TheVariants.{Ply}
use Rattle.lam_stock.specs.PlyLaw.{OffAxis, cosine, sine, reduced_11, reduced_12, reduced_22, reduced_66}
use Rattle.lam_lamina.specs.declared.stiffness.Sym3.{Sym3}
use Rattle.lam_stock.specs.Energy.{twice_energy, strain_squares}
use Rattle.lam_job.specs.LaminateStrain.{LaminateStrain}
use Rattle.lam_job.specs.Equilibrium.{item_stress, force_sum, moment_sum}
use Rattle.lam_wall.specs.Matrices.{matrices}
use Rattle.lam_wall.specs.Energy.{twice_wall_energy}

unfoldable ply_of : ℤ → ℤ → Item
ply_of e g = record {
  name = [];
  kind = Ply;
  lamina = record { e1 = e; e2 = e; n12 = pos 0; g12 = g; xt = pos 100000; xc = pos 100000; yt = pos 100000; yc = pos 100000; s = pos 50000; f12 = pos 0; t = pos 5000 };
  dir = record { p = pos 1; q = pos 0; h = pos 1 };
  cost = 10;
}

unfoldable wall : List Item
wall = ply_of (pos 10000) (pos 5000) ∷ ply_of (pos 20000) (pos 10000) ∷ []

-- what the moduli of such plies are over the scale of stiffness
unfoldable stiffness : Item → Sym3 ℚ
stiffness i = record {
  xx = fraction i.lamina.e1 (pos 131072);
  xy = whole (pos 0);
  yy = fraction i.lamina.e2 (pos 131072);
  xs = whole (pos 0);
  ys = whole (pos 0);
  ss = fraction i.lamina.g12 (pos 131072);
}

extension : (matrices stiffness wall).a.yy ≡ fraction (pos 15000) (pos 131072)
unfolding ply_of wall stiffness whole fraction class_of ◌+ℚ◌ ◌-ℚ◌ ◌*ℚ◌ ◌/ℚ◌ opposite inverse is_at_most on_one on_two of_two
extension = antisym (record { le = refl }) (record { le = refl })

coupling : (matrices stiffness wall).b.yy ≡ fraction (pos 2500) (pos 131072)
unfolding ply_of wall stiffness whole fraction class_of ◌+ℚ◌ ◌-ℚ◌ ◌*ℚ◌ ◌/ℚ◌ opposite inverse is_at_most on_one on_two of_two
coupling = antisym (record { le = refl }) (record { le = refl })

bending : (matrices stiffness wall).d.yy ≡ fraction (pos 5000) (pos 131072)
unfolding ply_of wall stiffness whole fraction class_of ◌+ℚ◌ ◌-ℚ◌ ◌*ℚ◌ ◌/ℚ◌ opposite inverse is_at_most on_one on_two of_two
bending = antisym (record { le = refl }) (record { le = refl })

-- Under 300000 N/m round the wall its mid-plane strains by 24 / 11000, and it bends by -0.1 times that for each mm.
unfoldable bent : LaminateStrain
bent = record {
  mid_plane = record { x = whole (pos 0); y = fraction (pos 24) (pos 11000); s = whole (pos 0) };
  curvature = record { x = whole (pos 0); y = fraction (neg_ℤ (pos 24)) (pos 110000000); s = whole (pos 0) };
}

hoop_force : force_sum (λ t. t.y) bent wall ≡ whole (pos 1200000)
unfolding ply_of wall bent cosine sine reduced_11 reduced_12 reduced_22 reduced_66 whole fraction class_of ◌+ℚ◌ ◌-ℚ◌ ◌*ℚ◌ ◌/ℚ◌ opposite inverse is_at_most on_one on_two of_two
hoop_force = antisym (record { le = refl }) (record { le = refl })

hoop_moment : moment_sum (λ t. t.y) bent wall ≡ whole (pos 0)
unfolding ply_of wall bent cosine sine reduced_11 reduced_12 reduced_22 reduced_66 whole fraction class_of ◌+ℚ◌ ◌-ℚ◌ ◌*ℚ◌ ◌/ℚ◌ opposite inverse is_at_most on_one on_two of_two
hoop_moment = antisym (record { le = refl }) (record { le = refl })

-- so twice the energy is 300000 times that strain, for each unit of the wall's area
energy_of_the_load : twice_wall_energy bent wall ≡ fraction (pos 7200000) (pos 11000)
unfolding ply_of wall bent cosine sine reduced_11 reduced_12 reduced_22 reduced_66 whole fraction class_of ◌+ℚ◌ ◌-ℚ◌ ◌*ℚ◌ ◌/ℚ◌ opposite inverse is_at_most on_one on_two of_two
energy_of_the_load = antisym (record { le = refl }) (record { le = refl })

-- ---- one layer, strained by 1, 2 and 4 thousandths

unfoldable strained : OffAxis
strained = record { x = fraction (pos 1) (pos 1000); y = fraction (pos 2) (pos 1000); s = fraction (pos 4) (pos 1000) }

-- the square of the shear counts half
squares_of_a_strain : strain_squares strained ≡ fraction (pos 13) (pos 1000000)
unfolding strained whole fraction class_of ◌+ℚ◌ ◌-ℚ◌ ◌*ℚ◌ ◌/ℚ◌ opposite inverse is_at_most on_one on_two of_two
squares_of_a_strain = antisym (record { le = refl }) (record { le = refl })

-- with the stresses 10, 20 and 20 MPa twice the energy is 0.13 MPa
energy_of_a_layer : twice_energy (item_stress (ply_of (pos 10000) (pos 5000)) strained) strained ≡ fraction (pos 13) (pos 100)
unfolding ply_of strained cosine sine reduced_11 reduced_12 reduced_22 reduced_66 whole fraction class_of ◌+ℚ◌ ◌-ℚ◌ ◌*ℚ◌ ◌/ℚ◌ opposite inverse is_at_most on_one on_two of_two
energy_of_a_layer = antisym (record { le = refl }) (record { le = refl })
