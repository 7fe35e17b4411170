-- What falls at each turn of refinement: the potential energy of a wall under a load, by the sums of the ends of what is
-- enclosed.
use Rattle.std.specs.Prelude.{ℕ, ℤ, pos, ◌+ℤ◌, ◌-ℤ◌, ◌*ℤ◌, unsigned_abs}
use Rattle.lam_fraction.specs.numbers.Numbers.{Numbers, unit}
use Rattle.lam_lamina.specs.declared.stiffness.Sym3.{Sym3}
use Rattle.lam_wall.specs.declared.wall.Wall.{Wall}
use Rattle.lam_solve.specs.declared.six.Six.{Six}
use Rattle.lam_solve.specs.declared.strains.Guess.{Guess}
use Rattle.lam_solve.specs.inside.Residual.{row_x, row_y, row_s}

-- ---- six whole numbers

abbrev pub strains : Guess → Six ℤ
strains c = record { ex = c.ex; ey = c.ey; g = c.g; kx = c.kx; ky = c.ky; kg = c.kg }

-- the work of forces and moments in strains
abbrev pub work : Six ℤ → Six ℤ → ℤ
work n e = n.ex *ℤ e.ex +ℤ n.ey *ℤ e.ey +ℤ n.g *ℤ e.g +ℤ n.kx *ℤ e.kx +ℤ n.ky *ℤ e.ky +ℤ n.kg *ℤ e.kg

-- the forces and moments that matrices give at strains
abbrev pub forces_at : (a b d : Sym3 ℤ) → Six ℤ → Six ℤ
forces_at a b d e = record {
  ex = work (row_x a b) e;
  ey = work (row_y a b) e;
  g = work (row_s a b) e;
  kx = work (row_x b d) e;
  ky = work (row_y b d) e;
  kg = work (row_s b d) e;
}

-- twice the strain energy, less twice the work of a load
abbrev pub potential : (a b d : Sym3 ℤ) (load : Six ℤ) (unit : ℤ) → Six ℤ → ℤ
potential a b d load unit e = work (forces_at a b d e) e -ℤ pos 2 *ℤ (unit *ℤ work load e)

-- ---- of what is enclosed

module _ {A : Type 0} (n : Numbers A) where
  abbrev pub ends_sum : A → ℤ
  ends_sum z = n.low z +ℤ n.high z

  abbrev pub matrix_sums : Sym3 A → Sym3 ℤ
  matrix_sums m = record { xx = ends_sum m.xx; xy = ends_sum m.xy; yy = ends_sum m.yy; xs = ends_sum m.xs; ys = ends_sum m.ys; ss = ends_sum m.ss }

  abbrev pub load_sums : Six A → Six ℤ
  load_sums t = record { ex = ends_sum t.ex; ey = ends_sum t.ey; g = ends_sum t.g; kx = ends_sum t.kx; ky = ends_sum t.ky; kg = ends_sum t.kg }

  abbrev pub wall_potential : Wall A → Six A → Six ℤ → ℤ
  wall_potential w loads = potential (matrix_sums w.a) (matrix_sums w.b) (matrix_sums w.d) (load_sums loads) (pos (unit n))

  -- how far it can fall from a centre: it is at least so much below 0
  unfoldable pub height : Wall A → Six A → Guess → ℕ
  height w loads c = unsigned_abs (wall_potential w loads (strains c) +ℤ pos 3072 *ℤ (pos (unit n) *ℤ work (load_sums loads) (load_sums loads)))
