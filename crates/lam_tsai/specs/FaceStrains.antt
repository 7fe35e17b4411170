-- The strains at a face of a ply, in enclosures.
use Rattle.std.specs.Prelude.{◌*◌, ◌≤◌}
use Rattle.lam_fraction.specs.numbers.Numbers.{Numbers, Holds, reach, unit}
use Rattle.lam_number.specs.declared.strength.FaceStrain.{FaceStrain}
use Rattle.lam_stock.specs.PlyLaw.{OffAxis}

-- each of the three holds its component of a strain of the wall
pub record HoldsStrain {A : Type 0} (n : Numbers A) (at : FaceStrain A) (e : OffAxis) : Type 0 where
  pub x : Holds n at.ex e.x
  pub y : Holds n at.ey e.y
  pub s : Holds n at.g e.s

-- none reaches farther than 6
pub record IsWithinSix {A : Type 0} (n : Numbers A) (at : FaceStrain A) : Type 0 where
  pub x : reach n at.ex ≤ 6 * unit n
  pub y : reach n at.ey ≤ 6 * unit n
  pub s : reach n at.g ≤ 6 * unit n
