-- A guess of the strains under forces, by elimination on the middles of the three equations, in fixed point.
use Rattle.std.specs.Prelude.{ℕ, ◌-◌, ◌*◌, ℤ, pos, unsigned_abs, Bool, ◌&&◌, nat_le}
use Rattle.lam_fraction.specs.numbers.Numbers.{Numbers, unit}
use Rattle.lam_lamina.specs.declared.stiffness.Sym3.{Sym3}
use Rattle.lam_solve.specs.inside.Elimination.{less, quotient, largest, middle}
use Rattle.lam_boxes.specs.declared.three.Three.{Three}
use Rattle.lam_boxes.specs.declared.three.Left.{Left}

-- the equations of y and of the shear without the strain in x
unfoldable pub without_x : ℕ → Sym3 ℤ → Three ℤ → Left
without_x bits m l =
    let y = quotient bits largest m.xy m.xx in
    let s = quotient bits largest m.xs m.xx in
    record {
      yy = less bits m.yy y m.xy;
      ys = less bits m.ys y m.xs;
      ss = less bits m.ss s m.xs;
      y = less bits l.y y l.x;
      s = less bits l.s s l.x;
    }

-- the equation of the shear without the strain in y, and the shear by it
unfoldable pub shear_by : (bits scale : ℕ) → ℤ → Left → ℤ
shear_by bits scale most l =
    let s = quotient bits largest l.ys l.yy in
    quotient scale most (less bits l.s s l.y) (less bits l.ss s l.ys)

-- the strains, the last one first, each at most so large
unfoldable pub strains_by : (bits scale : ℕ) → ℤ → Sym3 ℤ → Three ℤ → Left → Three ℤ
strains_by bits scale most m load l =
    let s = shear_by bits scale most l in
    let y = quotient scale most (less scale l.y l.ys s) l.yy in
    let x = quotient scale most (less scale (less scale load.x m.xy y) m.xs s) m.xx in
    record { x = x; y = y; s = s }

module _ {A : Type 0} (n : Numbers A) where
  abbrev pub middles : Sym3 A → Sym3 ℤ
  middles m = record {
    xx = middle n m.xx;
    xy = middle n m.xy;
    yy = middle n m.yy;
    xs = middle n m.xs;
    ys = middle n m.ys;
    ss = middle n m.ss;
  }

  abbrev pub middle_loads : Three A → Three ℤ
  middle_loads l = record { x = middle n l.x; y = middle n l.y; s = middle n l.s }

  -- no strain is guessed above 5
  unfoldable pub guess : Sym3 A → Three A → Three ℤ
  guess m loads =
      strains_by (n.scale - 4) n.scale (pos (5 * unit n)) (middles m) (middle_loads loads)
      (without_x (n.scale - 4) (middles m) (middle_loads loads))

  -- each component is at most 4 in size
  abbrev pub is_near : Three ℤ → Bool
  is_near c = nat_le (unsigned_abs c.x) (4 * unit n) && (nat_le (unsigned_abs c.y) (4 * unit n) && nat_le (unsigned_abs c.s) (4 * unit n))
