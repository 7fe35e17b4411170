-- A guess in units, and the residual of it between whole ends, from what the enclosed matrices and loads of a wall hold: the
-- laminate strain lies within radii round it, and within 5/2.
use Rattle.std.proofs.Common.{refl, ◌^◌, ◌≤◌, ℤ, pos, ◌+ℤ◌, ◌-ℤ◌, ◌*ℤ◌, ◌≤ℤ◌, ◌<ℤ◌, List, arith}
use Rattle.std.proofs.lemmas.Int.{ints}
use Rattle.std.specs.Int.{int_min, int_max}
use Rattle.std.proofs.Math.Nat.{pow-le-pow_right}
use Rattle.lam_fraction.specs.Fraction.{ℚ, whole, fraction, ◌*ℚ◌, ◌-ℚ◌, ◌≤ℚ◌}
use Rattle.lam_fraction.proofs.Expression.{◌⊖◌, ◌⊗◌}
use Rattle.lam_fraction.proofs.Solver.{◌≐◌}
use Rattle.lam_fraction.proofs.Rationals.{solve, above, at_most, number, transitive, ◌*ₙ◌}
use Rattle.lam_fraction.specs.numbers.Numbers.{Numbers, Holds, unit}
use Rattle.lam_stock.specs.declared.item.Item.{Item}
use Rattle.lam_stock.specs.declared.item.ItemNo.{ItemNo}
use Rattle.lam_stock.specs.declared.scale.Scale.{Scale}
use Rattle.lam_stock.specs.PlyLaw.{OffAxis}
use Rattle.lam_job.specs.declared.load.Load.{Load}
use Rattle.lam_job.specs.Equilibrium.{Solves}
use Rattle.lam_job.specs.LaminateStrain.{LaminateStrain}
use Rattle.lam_job.specs.Schedule.{items_of}
use Rattle.lam_lamina.specs.declared.stiffness.Sym3.{Sym3}
use Rattle.lam_lamina.specs.Held.{HoldsMatrix}
use Rattle.lam_lamina.specs.Stiffness.{stress_of}
use Rattle.lam_wall.specs.declared.wall.Wall.{Wall}
use Rattle.lam_wall.specs.Assembled.{StandsFor}
use Rattle.lam_wall.specs.Matrices.{added, bending_strain}
use Rattle.lam_wall.specs.MatrixLaw.{load_forces, load_moments}
use Rattle.lam_solve.specs.StrainBounds.{AreNear}
use Rattle.lam_solve.proofs.energy.Residuals.{Share, EndsWithin, row-near}
use Rattle.lam_solve.proofs.energy.Units.{StrainsBetween, over, bound-units, strains-units}
use Rattle.lam_solve.proofs.energy.WallStrains.{wall-held, wall-near}

-- three enclosures hold three numbers
pub record HoldsThree {A : Type 0} (n : Numbers A) (p q r : A) (t : OffAxis) : Type 0 where
  pub x : Holds n p t.x
  pub y : Holds n q t.y
  pub s : Holds n r t.s

-- an entry that is held, and a component of the guess
abbrev pub share : {A : Type 0} {n : Numbers A} {z : A} {x : ℚ} → Holds n z x → ℤ → Share (pos (unit n))
share {n = n} {z = z} {x = x} h c = record { entry = x; low = n.low z; high = n.high z; component = c; between = (h.encloses.from, h.encloses.to) }

-- what holds two numbers holds each between them
pub holds-between : {A : Type 0} {n : Numbers A} {z : A} {a b x : ℚ} → Holds n z a → Holds n z b → a ≤ℚ x → x ≤ℚ b → Holds n z x
unfolding ◌-ℚ◌
holds-between {n = n} {a = a} {b = b} {x = x} p q h k = record {
  encloses = record {
    from = transitive p.encloses.from (times_unit a x h);
    to = transitive (times_unit x b k) q.encloses.to;
  };
}
  where
    times_unit : (a b : ℚ) → a ≤ℚ b → a *ℚ whole (pos (unit n)) ≤ℚ b *ℚ whole (pos (unit n))
    times_unit a b h = at_most (number (unit n) *ₙ above h) (solve 3 (λ a b u. b ⊗ u ⊖ a ⊗ u ≐ u ⊗ (b ⊖ a)) refl a b (whole (pos (unit n))))

module _ {A : Type 0} (n : Numbers A) (ux uy us vx vy vs : ℤ) where
  -- the least and the greatest product of an entry's ends with a component
  abbrev pub low_part : A → ℤ → ℤ
  low_part z c = int_min (n.low z *ℤ c) (n.high z *ℤ c)

  abbrev pub high_part : A → ℤ → ℤ
  high_part z c = int_max (n.low z *ℤ c) (n.high z *ℤ c)

  -- the ends of what a load z leaves of an equation
  abbrev pub row_low : (z p q r s t v : A) → ℤ
  row_low z p q r s t v = n.low z *ℤ pos (unit n) -ℤ (high_part p ux +ℤ high_part q uy +ℤ high_part r us +ℤ high_part s vx +ℤ high_part t vy +ℤ high_part v vs)

  abbrev pub row_high : (z p q r s t v : A) → ℤ
  row_high z p q r s t v = n.high z *ℤ pos (unit n) -ℤ (low_part p ux +ℤ low_part q uy +ℤ low_part r us +ℤ low_part s vx +ℤ low_part t vy +ℤ low_part v vs)

  -- they are at most so many units, in units squared
  abbrev pub RowWithin : ℤ → (z p q r s t v : A) → Type 0
  RowWithin residual z p q r s t v = EndsWithin (pos (unit n)) residual (row_low z p q r s t v) (row_high z p q r s t v)

  -- three equations, by two matrices
  pub record ThreeWithin (residual : ℤ) (x y s : A) (first second : Sym3 A) : Type 0 where
    pub row_x : RowWithin residual x first.xx first.xy first.xs second.xx second.xy second.xs
    pub row_y : RowWithin residual y first.xy first.yy first.ys second.xy second.yy second.ys
    pub row_s : RowWithin residual s first.xs first.ys first.ss second.xs second.ys second.ss

  one : pos 0 <ℤ pos (unit n)
  one = let some : 2 ^ 0 ≤ unit n = pow-le-pow_right {n = 2} (omega arith) {i = 0} {j = n.scale} (omega arith) in omega (arith, ints, some)

  module _ (residual : ℤ) where
    abbrev r : ℚ
    r = fraction residual (pos (unit n))

    abbrev e : OffAxis
    e = over (pos (unit n)) ux uy us

    abbrev k : OffAxis
    k = over (pos (unit n)) vx vy vs

    three : {x y s : A} {t : OffAxis} {first second : Sym3 A} {a b : Sym3 ℚ} → HoldsThree n x y s t → HoldsMatrix n first a → HoldsMatrix n second b
        → ThreeWithin residual x y s first second → AreNear r t (added (stress_of a e) (stress_of b k))
    three {x} {y} {s} {t} {first} {second} {a} {b} h f g w = record {
      x = row-near (pos (unit n)) one t.x (n.low x) (n.high x) (h.x.encloses.from, h.x.encloses.to)
          (share f.xx ux) (share f.xy uy) (share f.xs us) (share g.xx vx) (share g.xy vy) (share g.xs vs) residual w.row_x;
      y = row-near (pos (unit n)) one t.y (n.low y) (n.high y) (h.y.encloses.from, h.y.encloses.to)
          (share f.xy ux) (share f.yy uy) (share f.ys us) (share g.xy vx) (share g.yy vy) (share g.ys vs) residual w.row_y;
      s = row-near (pos (unit n)) one t.s (n.low s) (n.high s) (h.s.encloses.from, h.s.encloses.to)
          (share f.xs ux) (share f.ys uy) (share f.ss us) (share g.xs vx) (share g.ys vy) (share g.ss vs) residual w.row_s;
    }

    -- the laminate strain of a wall, in units
    pub guess-near : {w : Wall A} {scale : Scale} {stock : List Item} {numbers : List ItemNo} (stands : StandsFor n w scale stock numbers)
        → (load : Load) (f : LaminateStrain) → Solves (items_of stock numbers) load f
        → (nx ny ns mx my ms : A) → HoldsThree n nx ny ns (load_forces scale.q0 w.h load) → HoldsThree n mx my ms (load_moments scale.q0 w.h load)
        → ThreeWithin residual nx ny ns w.a w.b → ThreeWithin residual mx my ms w.b w.d
        → (bound radius : ℤ) → (residual *ℤ scale.q0) ≤ℤ (bound *ℤ scale.floor) → (pos 5 *ℤ bound) ≤ℤ (pos 2 *ℤ radius)
        → StrainsBetween (pos (unit n)) ux uy us vx vy vs bound radius f.mid_plane (bending_strain w.h f.curvature)
    guess-near {w} {scale} stands load f solves nx ny ns mx my ms held_forces held_moments by_forces by_moments bound radius size halved =
        let held = wall-held stands in
        strains-units (pos (unit n)) one ux uy us vx vy vs bound radius f.mid_plane (bending_strain w.h f.curvature) halved
        (wall-near stands load f solves e k r (fraction bound (pos (unit n)))
        (record { forces = three held_forces held.a held.b by_forces; moments = three held_moments held.b held.d by_moments })
        (bound-units (pos (unit n)) one residual bound scale.q0 scale.floor size))
