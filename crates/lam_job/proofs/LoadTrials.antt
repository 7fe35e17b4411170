-- The load of a case and its range, tried on worked numbers.
use Rattle.std.proofs.Common.{◌≡◌, refl, true, false, pos, negsuc, [], ◌∷◌}
use Rattle.lam_job.specs.declared.case.CaseKind.TheVariants.{Resultants, Cylinder}
use Rattle.lam_job.specs.LoadOf.{load_of}
use Rattle.lam_job.specs.LoadRange.{WallInRange}
use Rattle.lam_job.proofs.Worked.{mat, stiff, forces, moments}

-- 300 kPa on 2000 mm: 150000 N/m along and 300000 N/m round
closed_cylinder : load_of (Cylinder (pos 300) (pos 2000) true (pos 0) (pos 0) (pos 0)) ≡ forces (pos 600000) (pos 1200000) (pos 0)
closed_cylinder = refl

-- 3 kPa on 5 mm: 3.75 N/m along and 7.5 N/m round
quarters_are_needed : load_of (Cylinder (pos 3) (pos 5) true (pos 0) (pos 0) (pos 0)) ≡ forces (pos 15) (pos 30) (pos 0)
quarters_are_needed = refl

-- 60 kPa on 2400 mm whose ends are carried elsewhere, with 10000 N/m of own weight
open_cylinder : load_of (Cylinder (pos 60) (pos 2400) false (negsuc 9999) (pos 0) (pos 0)) ≡ forces (negsuc 39999) (pos 288000) (pos 0)
open_cylinder = refl

-- a cylinder's moments are its own
cylinder_with_moments : load_of (Cylinder (pos 0) (pos 1) true (pos 0) (pos 7) (pos 8)) ≡ moments (pos 7) (pos 8) (pos 0)
cylinder_with_moments = refl

named_resultants : load_of (Resultants (pos 1) (pos 2) (pos 3) (pos 0) (pos 0) (pos 0)) ≡ forces (pos 4) (pos 8) (pos 12)
named_resultants = refl

named_moments : load_of (Resultants (pos 0) (pos 0) (pos 0) (pos 1) (pos 2) (pos 3)) ≡ moments (pos 1) (pos 2) (pos 3)
named_moments = refl

-- 6250000 N/m on 5 mm of `mat` is at the edge of the range
at_the_edge : WallInRange (mat ∷ stiff ∷ []) (mat ∷ []) (forces (pos 0) (pos 25000000) (pos 0))
at_the_edge = record { nx = record { le = tt }; ny = record { le = tt }; nxy = record { le = tt }; mx = record { le = tt }; my = record { le = tt }; mxy = record { le = tt } }

past_the_edge : ¬ WallInRange (mat ∷ stiff ∷ []) (mat ∷ []) (forces (pos 0) (pos 25000001) (pos 0))
past_the_edge r = r.ny.le

past_the_edge_in_compression : ¬ WallInRange (mat ∷ stiff ∷ []) (mat ∷ []) (forces (negsuc 25000000) (pos 0) (pos 0))
past_the_edge_in_compression r = r.nx.le

-- 5000 MPa times the square of 5 mm, over 8: 15625000 mN, and one more, in each component
moment_at_the_edge : WallInRange (mat ∷ []) (mat ∷ []) (moments (pos 0) (pos 0) (pos 15625000))
moment_at_the_edge = record { nx = record { le = tt }; ny = record { le = tt }; nxy = record { le = tt }; mx = record { le = tt }; my = record { le = tt }; mxy = record { le = tt } }

moment_past_the_edge : ¬ WallInRange (mat ∷ []) (mat ∷ []) (moments (pos 0) (pos 0) (pos 15625001))
moment_past_the_edge r = r.mxy.le

moment_x_past_the_edge : ¬ WallInRange (mat ∷ []) (mat ∷ []) (moments (negsuc 15625000) (pos 0) (pos 0))
moment_x_past_the_edge r = r.mx.le

moment_y_past_the_edge : ¬ WallInRange (mat ∷ []) (mat ∷ []) (moments (pos 0) (pos 15625001) (pos 0))
moment_y_past_the_edge r = r.my.le

shear_past_the_edge : ¬ WallInRange (mat ∷ stiff ∷ []) (mat ∷ []) (forces (pos 0) (pos 0) (negsuc 25000000))
shear_past_the_edge r = r.nxy.le
