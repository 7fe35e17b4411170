-- The strains round a centre: the greatest size of its residual, over the softest that a wall can be, is a radius for each
-- of the six by its weight in the energy, and no strain in range is more than 5/2 in size.
use Rattle.std.specs.Prelude.{ℕ, ◌*◌, ◌/◌, max, ℤ, pos, ◌+ℤ◌, ◌-ℤ◌, unsigned_abs, Bool, nat_le, if◌then◌else◌, Some, None}
use Rattle.std.specs.declared.option.Option.{Option}
use Rattle.lam_fraction.specs.numbers.Ends as ends
use Rattle.lam_fraction.specs.numbers.Numbers.{Numbers, unit}
use Rattle.lam_stock.specs.declared.scale.Scale.{Scale}
use Rattle.lam_job.specs.declared.load.Load.{Load}
use Rattle.lam_wall.specs.declared.wall.Wall.{Wall}
use Rattle.lam_solve.specs.declared.six.Six.{Six}
use Rattle.lam_solve.specs.declared.six.Ends.{Ends}
use Rattle.lam_solve.specs.declared.strains.Guess.{Guess}
use Rattle.lam_solve.specs.declared.strains.Strains.{Strains}
use Rattle.lam_solve.specs.inside.Steps.{cut, over_up}
use Rattle.lam_solve.specs.inside.Formulas as formulas
use Rattle.lam_solve.specs.inside.Residual.{residual}

-- the greatest size of the twelve ends
abbrev pub end_reach : Ends → ℕ
end_reach e = ends.reach e.low e.high

abbrev pub greatest_size : Six Ends → ℕ
greatest_size r = max (max (max (end_reach r.ex) (end_reach r.ey)) (end_reach r.g)) (max (max (end_reach r.kx) (end_reach r.ky)) (end_reach r.kg))

-- the greatest size of the six components of a guess
abbrev pub guess_size : Guess → ℕ
guess_size c = max (max (max (unsigned_abs c.ex) (unsigned_abs c.ey)) (unsigned_abs c.g)) (max (max (unsigned_abs c.kx) (unsigned_abs c.ky)) (unsigned_abs c.kg))

module _ {A : Type 0} (n : Numbers A) where
  abbrev pub radius : Scale → Six Ends → ℕ
  radius scale r = over_up (over_up (greatest_size r) (unit n) * unsigned_abs scale.q0) (unsigned_abs scale.floor)

  -- from a radius below a centre to a radius above it, and at most 5/2 in size
  abbrev pub around : ℤ → ℕ → A
  around c r =
      n.hull (n.calc.ratio (cut (pos (5 * unit n / 2)) (c -ℤ pos r)) (pos (unit n))) (n.calc.ratio (cut (pos (5 * unit n / 2)) (c +ℤ pos r)) (pos (unit n)))

  abbrev pub enclosed : Scale → Guess → Six Ends → Strains A
  enclosed scale c r = record {
    ex = around c.ex (over_up (5 * radius scale r) 2);
    ey = around c.ey (over_up (5 * radius scale r) 2);
    g = around c.g (4 * radius scale r);
    kx = around c.kx (5 * radius scale r);
    ky = around c.ky (5 * radius scale r);
    kg = around c.kg (8 * radius scale r);
  }

  -- each component of a guess is at most 4 in size
  abbrev pub is_near : Guess → Bool
  is_near c = nat_le (guess_size c) (4 * unit n)

  -- the residual of a guess under a load
  abbrev pub residual_at : Wall A → Load → Scale → Guess → Six Ends
  residual_at w load scale c = residual n w (formulas.loads n.calc scale.q0 w.h load) c

  abbrev pub enclosed_at : Wall A → Load → Scale → Guess → Option (Strains A)
  enclosed_at w load scale c =
      if is_near c then Some (enclosed scale c (residual_at w load scale c)) else None
