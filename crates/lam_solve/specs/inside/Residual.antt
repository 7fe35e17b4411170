-- The residual of a centre, from the ends of the matrices' entries and of the load, in units squared.
use Rattle.std.specs.Prelude.{ℕ, ◌+◌, ◌^◌, max, ℤ, pos, ◌+ℤ◌, ◌-ℤ◌, ◌*ℤ◌, unsigned_abs}
use Rattle.std.specs.Int.{int_min, int_max}
use Rattle.lam_fraction.specs.numbers.Numbers.{Numbers, unit}
use Rattle.lam_fraction.specs.numbers.Rounding.{floor_over}
use Rattle.lam_lamina.specs.declared.stiffness.Sym3.{Sym3}
use Rattle.lam_wall.specs.declared.wall.Wall.{Wall}
use Rattle.lam_solve.specs.declared.six.Six.{Six}
use Rattle.lam_solve.specs.declared.six.Ends.{Ends}
use Rattle.lam_solve.specs.declared.strains.Guess.{Guess}

module _ {A : Type 0} where
  -- the coefficients of an equation, at mid-plane strains by the first matrix and at bending strains by the second
  abbrev pub row_x : Sym3 A → Sym3 A → Six A
  row_x a b = record { ex = a.xx; ey = a.xy; g = a.xs; kx = b.xx; ky = b.xy; kg = b.xs }

  abbrev pub row_y : Sym3 A → Sym3 A → Six A
  row_y a b = record { ex = a.xy; ey = a.yy; g = a.ys; kx = b.xy; ky = b.yy; kg = b.ys }

  abbrev pub row_s : Sym3 A → Sym3 A → Six A
  row_s a b = record { ex = a.xs; ey = a.ys; g = a.ss; kx = b.xs; ky = b.ys; kg = b.ss }

module _ {A : Type 0} (n : Numbers A) where
  -- the products of an entry's ends with a component of the centre
  abbrev pub share : A → ℤ → Ends
  share z c = record { low = int_min (n.low z *ℤ c) (n.high z *ℤ c); high = int_max (n.low z *ℤ c) (n.high z *ℤ c) }

  -- their sums along a row
  abbrev pub least : Six A → Guess → ℤ
  least row c =
      (share row.ex c.ex).low +ℤ (share row.ey c.ey).low +ℤ (share row.g c.g).low
      +ℤ (share row.kx c.kx).low +ℤ (share row.ky c.ky).low +ℤ (share row.kg c.kg).low

  abbrev pub greatest : Six A → Guess → ℤ
  greatest row c =
      (share row.ex c.ex).high +ℤ (share row.ey c.ey).high +ℤ (share row.g c.g).high
      +ℤ (share row.kx c.kx).high +ℤ (share row.ky c.ky).high +ℤ (share row.kg c.kg).high

  abbrev pub row_residual : A → Six A → Guess → Ends
  row_residual load row c = record {
    low = n.low load *ℤ pos (unit n) -ℤ greatest row c;
    high = n.high load *ℤ pos (unit n) -ℤ least row c;
  }

  abbrev pub residual : Wall A → Six A → Guess → Six Ends
  residual w loads c = record {
    ex = row_residual loads.ex (row_x w.a w.b) c;
    ey = row_residual loads.ey (row_y w.a w.b) c;
    g = row_residual loads.g (row_s w.a w.b) c;
    kx = row_residual loads.kx (row_x w.b w.d) c;
    ky = row_residual loads.ky (row_y w.b w.d) c;
    kg = row_residual loads.kg (row_s w.b w.d) c;
  }

  -- ---- the middle of a residual, in units

  abbrev pub middle : Ends → ℤ
  middle r = floor_over (r.low +ℤ r.high) (2 ^ (n.scale + 1))

  abbrev pub size : Ends → ℕ
  size r = unsigned_abs (middle r)

  -- the greatest size of the six middles
  abbrev pub greatest_middle : Six Ends → ℕ
  greatest_middle r = max (max (max (size r.ex) (size r.ey)) (size r.g)) (max (max (size r.kx) (size r.ky)) (size r.kg))
