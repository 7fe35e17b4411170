-- What forces leave of their equations at a guess, and how far the strains lie from the guess at most: by the length of
-- what is left, over the least stiffness of a wall.
use Rattle.std.specs.Prelude.{ℕ, ◌*◌, ℤ, pos, ◌*ℤ◌, unsigned_abs, Bool, ◌&&◌, nat_le}
use Rattle.lam_fraction.specs.numbers.Arithmetic.{Arithmetic}
use Rattle.lam_fraction.specs.numbers.Numbers.{Numbers, unit}
use Rattle.lam_stock.specs.declared.scale.Scale.{Scale}
use Rattle.lam_job.specs.declared.load.Load.{Load}
use Rattle.lam_lamina.specs.declared.stiffness.Sym3.{Sym3}
use Rattle.lam_solve.specs.inside.Steps.{over_up}
use Rattle.lam_boxes.specs.declared.three.Three.{Three}

module _ {A : Type 0} (v : Arithmetic A) where
  -- the forces of a load over h q0
  abbrev pub forces : (q0 h : ℤ) → Load → Three A
  forces q0 h load = record {
    x = v.ratio load.nx (pos 4 *ℤ (h *ℤ q0));
    y = v.ratio load.ny (pos 4 *ℤ (h *ℤ q0));
    s = v.ratio load.nxy (pos 4 *ℤ (h *ℤ q0));
  }

  -- an eighth of a guess in units
  abbrev pub eighths : ℕ → Three ℤ → Three A
  eighths one c = record {
    x = v.ratio c.x (pos (8 * one));
    y = v.ratio c.y (pos (8 * one));
    s = v.ratio c.s (pos (8 * one));
  }

  -- an eighth of what a force leaves of an equation
  abbrev pub row : (load p q r : A) → Three A → A
  row load p q r e = v.difference (v.quotient load (pos 8)) (v.sum (v.sum (v.product p e.x) (v.product q e.y)) (v.product r e.s))

  abbrev pub residual : Sym3 A → Three A → Three A → Three A
  residual m loads e = record {
    x = row loads.x m.xx m.xy m.xs e;
    y = row loads.y m.xy m.yy m.ys e;
    s = row loads.s m.xs m.ys m.ss e;
  }

  -- the square of its length: that of the shear counts twice, since the shear strain counts half
  abbrev pub length_square : Three A → A
  length_square r = v.sum (v.sum (v.square r.x) (v.square r.y)) (v.multiple (v.square r.s) (pos 2))

module _ {A : Type 0} (n : Numbers A) where
  -- no end is above an eighth
  abbrev pub is_small : A → Bool
  is_small z = nat_le (8 * unsigned_abs (n.low z)) (unit n) && nat_le (8 * unsigned_abs (n.high z)) (unit n)

  abbrev pub are_small : Three A → Bool
  are_small r = is_small r.x && (is_small r.y && is_small r.s)

  -- all lengths up to that of an eighth of what is left
  abbrev pub lengths : Three A → A
  lengths r = n.root (n.hull (length_square n.calc r) (n.calc.ratio (pos 0) (pos 1)))

  -- the length over the least stiffness, in units, for walls from one thickness to another
  abbrev pub radius : Scale → (most least : ℤ) → Three A → ℕ
  radius scale most least r =
      over_up (8 * unsigned_abs (n.high (lengths r)) * (unsigned_abs scale.q0 * unsigned_abs most)) (unsigned_abs scale.floor * unsigned_abs least)
