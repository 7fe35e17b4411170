-- The walls over which the turns of refinement need no bound.
use Rattle.std.specs.Prelude.{◌*◌, Bool, nat_le, nat_eq, ◌&&◌}
use Rattle.lam_fraction.specs.numbers.Numbers.{Numbers, width}
use Rattle.lam_lamina.specs.declared.stiffness.Sym3.{Sym3}
use Rattle.lam_wall.specs.declared.wall.Wall.{Wall}

module _ {A : Type 0} (n : Numbers A) where
  -- an entry is at most 512 slops wide
  abbrev pub is_narrow_entry : A → Bool
  is_narrow_entry z = nat_le (width n z) (512 * n.slop)

  -- each of a matrix is
  unfoldable pub is_narrow_matrix : Sym3 A → Bool
  is_narrow_matrix m =
      is_narrow_entry m.xx && is_narrow_entry m.xy && is_narrow_entry m.yy && is_narrow_entry m.xs && is_narrow_entry m.ys && is_narrow_entry m.ss

  -- one is 2^60 units, and each entry of the three matrices is
  unfoldable pub is_narrow : Wall A → Bool
  is_narrow w = nat_eq n.scale 60 && is_narrow_matrix w.a && is_narrow_matrix w.b && is_narrow_matrix w.d
