-- The unknowns of a wall's equations eliminated one after the other, in fixed point, and the guess by it.
use Rattle.std.specs.Prelude.{◌≡◌, ℕ, ◌-◌, ◌*◌, ◌^◌, ℤ, pos, ◌+ℤ◌, ◌-ℤ◌, ◌*ℤ◌, unsigned_abs, int_lt, if◌then◌else◌}
use Rattle.lam_fraction.specs.numbers.Numbers.{Numbers, unit}
use Rattle.lam_fraction.specs.numbers.Rounding.{floor_over}
use Rattle.lam_wall.specs.declared.wall.Wall.{Wall}
use Rattle.lam_solve.specs.declared.elimination.Elimination.{Elimination}
use Rattle.lam_solve.specs.declared.elimination.Equation.{Equation}
use Rattle.lam_solve.specs.declared.elimination.Row.{Row}
use Rattle.lam_solve.specs.declared.six.Six.{Six}
use Rattle.lam_solve.specs.declared.strains.Guess.{Guess}
use Rattle.lam_solve.specs.inside.Residual.{row_x, row_y, row_s}
use Rattle.lam_solve.specs.inside.Steps.{cut}

abbrev pub largest : ℤ
largest = pos (2 ^ 62)

-- a number less a share of another, over two to the power of some bits
unfoldable pub less : ℕ → (value share other : ℤ) → ℤ
less bits value share other = cut largest (value -ℤ floor_over (share *ℤ other) (2 ^ bits))

-- a number over another, times two to the power of some bits; 0 where the other is not above 0
unfoldable pub quotient : ℕ → (most value over : ℤ) → ℤ
quotient bits most value over = if int_lt (pos 0) over then cut most (floor_over (value *ℤ pos (2 ^ bits)) (unsigned_abs over)) else pos 0

-- no numbers yet
abbrev pub none : Row
none = record { first = pos 0; second = pos 0; third = pos 0; fourth = pos 0; fifth = pos 0; sixth = pos 0 }

-- a number before those of a row, whose last is dropped
abbrev pub pushed : Row → ℤ → Row
pushed row number = record { first = number; second = row.first; third = row.second; fourth = row.third; fifth = row.fourth; sixth = row.fifth }

-- the numbers of a row past its first
abbrev pub past_first : Row → Row
past_first row = record { first = row.second; second = row.third; third = row.fourth; fourth = row.fifth; fifth = row.sixth; sixth = pos 0 }

-- each less a share of another row's
unfoldable pub rest_left : ℕ → Row → ℤ → Row → Row
rest_left bits rest share other = record {
  first = less bits rest.second share other.second;
  second = less bits rest.third share other.third;
  third = less bits rest.fourth share other.fourth;
  fourth = less bits rest.fifth share other.fifth;
  fifth = less bits rest.sixth share other.sixth;
  sixth = pos 0;
}

-- a number less shares of the first five of a row
unfoldable pub left_of : ℕ → (value : ℤ) → (shares of : Row) → ℤ
left_of bits value shares of =
    less bits (less bits (less bits (less bits (less bits value shares.first of.first) shares.second of.second) shares.third of.third) shares.fourth of.fourth) shares.fifth of.fifth

-- an equation less such a share of another that its first unknown is eliminated
unfoldable pub without_first : ℕ → Equation → Row → Equation
without_first bits e other =
    let share = quotient bits largest e.rest.first other.first in
    record { rest = rest_left bits e.rest share other; shares = pushed e.shares share }

module _ {A : Type 0} (n : Numbers A) where
  -- half the sum of the ends, rounded down
  abbrev pub middle : A → ℤ
  middle z = floor_over (n.low z +ℤ n.high z) 2

  -- an equation before any unknown is eliminated
  unfoldable pub middles : Six A → Equation
  middles row = record {
    rest = record { first = middle row.ex; second = middle row.ey; third = middle row.g; fourth = middle row.kx; fifth = middle row.ky; sixth = middle row.kg };
    shares = none;
  }

  unfoldable pub eliminated : Wall A → Elimination
  eliminated w =
      let without = without_first (n.scale - 4) in
      let ex = middles (row_x w.a w.b) in
      let ey = without (middles (row_y w.a w.b)) ex.rest in
      let g = without (without (middles (row_s w.a w.b)) ex.rest) ey.rest in
      let kx = without (without (without (middles (row_x w.b w.d)) ex.rest) ey.rest) g.rest in
      let ky = without (without (without (without (middles (row_y w.b w.d)) ex.rest) ey.rest) g.rest) kx.rest in
      let kg = without (without (without (without (without (middles (row_s w.b w.d)) ex.rest) ey.rest) g.rest) kx.rest) ky.rest in
      record { ex = ex; ey = ey; g = g; kx = kx; ky = ky; kg = kg }

  pub record IsEliminationOf (w : Wall A) (e : Elimination) : Type 0 where
    pub is : e ≡ eliminated w

  -- the middles of a load, with the same shares taken off, the last one first
  unfoldable pub loads_left : Elimination → Six A → Row
  loads_left e loads =
      let left = left_of (n.scale - 4) in
      let first = pushed none (middle loads.ex) in
      let second = pushed first (left (middle loads.ey) e.ey.shares first) in
      let third = pushed second (left (middle loads.g) e.g.shares second) in
      let fourth = pushed third (left (middle loads.kx) e.kx.shares third) in
      let fifth = pushed fourth (left (middle loads.ky) e.ky.shares fourth) in
      pushed fifth (left (middle loads.kg) e.kg.shares fifth)

  -- the unknown of an equation from those that follow it, at most 4 in size
  unfoldable pub unknown : ℤ → Row → Row → ℤ
  unknown load rest found = quotient n.scale (pos (4 * unit n)) (left_of n.scale load (past_first rest) found) rest.first

  -- a guess of the strains under a load, the last unknown first
  unfoldable pub guess : Elimination → Six A → Guess
  guess e loads =
      let left = loads_left e loads in
      let kg = unknown left.first e.kg.rest none in
      let one = pushed none kg in
      let ky = unknown left.second e.ky.rest one in
      let two = pushed one ky in
      let kx = unknown left.third e.kx.rest two in
      let three = pushed two kx in
      let g = unknown left.fourth e.g.rest three in
      let four = pushed three g in
      let ey = unknown left.fifth e.ey.rest four in
      let five = pushed four ey in
      let ex = unknown left.sixth e.ex.rest five in
      record { ex = ex; ey = ey; g = g; kx = kx; ky = ky; kg = kg }
