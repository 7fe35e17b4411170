-- What strains at the faces of a ply say of its strength ratio.
use Rattle.std.specs.Prelude.{ℕ, pos, List}
use Rattle.lam_fraction.specs.Fraction.{whole}
use Rattle.lam_fraction.specs.numbers.Numbers.{Numbers}
use Rattle.lam_job.specs.Equilibrium.{Solves}
use Rattle.lam_job.specs.LaminateStrain.{LaminateStrain, strain_at}
use Rattle.lam_job.specs.Strength.{HasSide}
use Rattle.lam_job.specs.Wall.{Placed}
use Rattle.lam_job.specs.declared.load.Load.{Load}
use Rattle.lam_number.specs.declared.strength.FaceStrain.{FaceStrain}
use Rattle.lam_stock.specs.PlyLaw as law
use Rattle.lam_stock.specs.TsaiWu.{RatioAtLeast}
use Rattle.lam_stock.specs.declared.item.Item.{Item}
use Rattle.lam_tsai.specs.declared.place.FaceSide.{FaceSide}
use Rattle.lam_tsai.specs.declared.place.FaceSide.TheVariants.{Inner, Outer}
use Rattle.lam_tsai.specs.FaceStrains.{HoldsStrain}

-- the strains at one of the two faces
abbrev pub at_face : {A : Type 0} → FaceStrain A → FaceStrain A → FaceSide → FaceStrain A
at_face inner outer Inner = inner
at_face inner outer Outer = outer

-- at both faces and on all sides the ratio is at least so many thousandths, for every strain that is held
abbrev pub HasRatio : {A : Type 0} → Numbers A → Item → FaceStrain A → FaceStrain A → ℕ → Type 0
HasRatio n i inner outer r =
    (face : FaceSide) (side : law.Side) → HasSide i.kind side
    → (e : law.OffAxis) → HoldsStrain n (at_face inner outer face) e
    → RatioAtLeast i.lamina (law.side_stress i.lamina i.dir side e) (whole (pos r))

-- the strains at both faces of a ply hold those of every laminate strain of the wall under the load
pub record HoldsSolutions {A : Type 0} (n : Numbers A) (wall : List Item) (load : Load) (p : Placed) (inner outer : FaceStrain A) : Type 0 where
  pub inner_face : (f : LaminateStrain) → Solves wall load f → HoldsStrain n inner (strain_at f p.inner)
  pub outer_face : (f : LaminateStrain) → Solves wall load f → HoldsStrain n outer (strain_at f p.outer)
