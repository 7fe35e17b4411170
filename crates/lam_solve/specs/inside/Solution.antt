-- Turns of refinement: the centres are a sequence, each one turn after the one before, and the answer is taken round the
-- first that needs no further turn. Over a narrow wall this comes, with no bound on the turns.
use Rattle.std.specs.Prelude.{◌≡◌, ℕ, zero, suc, ◌*◌, ◌/◌, ◌<◌, ℤ, pos, ◌+ℤ◌, Bool, true, false, nat_le, if◌then◌else◌}
use Rattle.lam_fraction.specs.numbers.Numbers.{Numbers, unit}
use Rattle.lam_stock.specs.declared.scale.Scale.{Scale}
use Rattle.lam_job.specs.declared.load.Load.{Load}
use Rattle.lam_wall.specs.declared.wall.Wall.{Wall}
use Rattle.lam_solve.specs.declared.six.Six.{Six}
use Rattle.lam_solve.specs.declared.six.Ends.{Ends}
use Rattle.lam_solve.specs.declared.strains.Guess.{Guess}
use Rattle.lam_solve.specs.declared.strains.Strains.{Strains}
use Rattle.lam_solve.specs.inside.Formulas as formulas
use Rattle.lam_solve.specs.inside.Enclosed.{enclosed}
use Rattle.lam_solve.specs.inside.Elimination.{eliminated, guess}
use Rattle.lam_solve.specs.inside.Narrow.{is_narrow}
use Rattle.lam_solve.specs.inside.Steps.{cut}
use Rattle.lam_solve.specs.inside.Turns.{height}
pub use Rattle.lam_solve.specs.inside.Residual.{residual, middle, size, greatest_middle}

abbrev pub no_strains : Guess
no_strains = record { ex = pos 0; ey = pos 0; g = pos 0; kx = pos 0; ky = pos 0; kg = pos 0 }

module _ {A : Type 0} (n : Numbers A) where
  -- a component with the middle of its equation's residual added, and at most 4 in size
  abbrev pub moved : ℤ → Ends → ℤ
  moved c r = cut (pos (4 * unit n)) (c +ℤ middle n r)

  -- the centre after one turn
  unfoldable pub turned : Guess → Six Ends → Guess
  turned c r = record {
    ex = moved c.ex r.ex;
    ey = moved c.ey r.ey;
    g = moved c.g r.g;
    kx = moved c.kx r.kx;
    ky = moved c.ky r.ky;
    kg = moved c.kg r.kg;
  }

  -- the rule that ends the turns: no middle of the residual is more than so many units
  unfoldable pub is_settled : ℕ → Six Ends → Bool
  is_settled most r = nat_le (greatest_middle n r) most

  -- the first centre at which the rule ends the turns, from a centre on and after so many turns at most
  unfoldable pub refined : (most : ℕ) → Wall A → Six A → (turns : ℕ) → Guess → Guess
  refined most w loads zero c = c
  refined most w loads (suc turns) c =
      let r = residual n w loads c in
      if is_settled most r then c else refined most w loads turns (turned c r)

  -- ---- over a narrow wall

  -- the centre after so many turns
  unfoldable pub after : Wall A → Six A → (turns : ℕ) → Guess → Guess
  after w loads zero c = c
  after w loads (suc turns) c = after w loads turns (turned c (residual n w loads c))

  -- of the centres that follow another, each one turn after the one before, this is the first of whose residual no middle
  -- is more than so many units
  pub record IsFirst (most : ℕ) (w : Wall A) (loads : Six A) (from first : Guess) : Type 0 where
    pub turns : ℕ
    pub follows : first ≡ after w loads turns from
    pub ends : is_settled most (residual n w loads first) ≡ true
    pub earlier : (k : ℕ) → k < turns → is_settled most (residual n w loads (after w loads k from)) ≡ false

  -- where turns start: the guess where no middle of its residual is more than 1/8192, else no strains
  unfoldable pub start : Wall A → Six A → Guess → Guess
  start w loads c = if is_settled (unit n / 8192) (residual n w loads c) then c else no_strains

  -- the first centre at which no middle is more than 4096 slops: at each turn before it the potential energy falls, so
  -- that it comes before as many turns as that can fall
  abbrev pub first_settled : Wall A → Six A → Guess → Guess
  first_settled w loads c = refined (4096 * n.slop) w loads (height n w loads c) c

  -- ---- the answer

  -- the centre that a guess leads to; over another wall after at most 64 turns
  unfoldable pub centre : Wall A → Six A → Guess → Guess
  centre w loads c = if is_narrow n w then first_settled w loads (start w loads c) else refined 64 w loads 64 c

  -- the strains round the centre that the guess by elimination leads to
  abbrev pub solution : Wall A → Load → Scale → Strains A
  solution w load scale =
      let loads = formulas.loads n.calc scale.q0 w.h load in
      let c = centre w loads (guess n (eliminated n w) loads) in
      enclosed n scale c (residual n w loads c)
