-- The coefficients of the equations of a wall are small.
use Rattle.std.proofs.Common.{◌≡◌, ◌*◌, ◌≤◌, ℤ, pos, ◌+ℤ◌, ◌-ℤ◌, ◌*ℤ◌, arith}
use Rattle.lam_fraction.specs.numbers.Ends as ends
use Rattle.lam_fraction.specs.numbers.Numbers.{Numbers, Lawful, reach, unit}
use Rattle.lam_lamina.specs.declared.stiffness.Sym3.{Sym3}
use Rattle.lam_wall.specs.Assembled.{SmallMatrix}
use Rattle.lam_solve.specs.inside.Parts.{SmallEntry, SmallRow}
use Rattle.lam_solve.specs.declared.six.Six.{Six}
use Rattle.lam_solve.specs.declared.six.Ends.{Ends}
use Rattle.lam_solve.specs.declared.strains.Guess.{Guess}
use Rattle.lam_solve.specs.inside.Residual.{row_x, row_y, row_s, share, row_residual}
use Rattle.lam_solve.proofs.Units.{unit_most}

module _ {A : Type 0} {n : Numbers A} (laws : Lawful n) where
  pub small-entry : {z : A} → reach n z ≤ 2 * unit n → SmallEntry n z
  unfolding ends.reach
  small-entry {z} h = let b = unit_most laws in record { low = record { size = omega (arith, h, b) }; high = record { size = omega (arith, h, b) } }

  pub small-x : {a b : Sym3 A} → SmallMatrix n a → SmallMatrix n b → SmallRow n (row_x a b)
  small-x p q = record { ex = small-entry p.xx; ey = small-entry p.xy; g = small-entry p.xs; kx = small-entry q.xx; ky = small-entry q.xy; kg = small-entry q.xs }

  pub small-y : {a b : Sym3 A} → SmallMatrix n a → SmallMatrix n b → SmallRow n (row_y a b)
  small-y p q = record { ex = small-entry p.xy; ey = small-entry p.yy; g = small-entry p.ys; kx = small-entry q.xy; ky = small-entry q.yy; kg = small-entry q.ys }

  pub small-s : {a b : Sym3 A} → SmallMatrix n a → SmallMatrix n b → SmallRow n (row_s a b)
  small-s p q = record { ex = small-entry p.xs; ey = small-entry p.ys; g = small-entry p.ss; kx = small-entry q.xs; ky = small-entry q.ys; kg = small-entry q.ss }

-- ---- the residual of a row, from the shares that are computed

pub same_ends : {a b c d : ℤ} → a ≡ c → b ≡ d → (let r : Ends = record { low = a; high = b } in r) ≡ (let r : Ends = record { low = c; high = d } in r)
same_ends p q = λ i. record { low = p i; high = q i }

pub row-value : {A : Type 0} (n : Numbers A) (load : A) (row : Six A) (c : Guess) {u : ℤ} {s1 s2 s3 s4 s5 s6 : Ends} → u ≡ pos (unit n)
    → s1 ≡ share n row.ex c.ex → s2 ≡ share n row.ey c.ey → s3 ≡ share n row.g c.g → s4 ≡ share n row.kx c.kx → s5 ≡ share n row.ky c.ky → s6 ≡ share n row.kg c.kg
    → (let r : Ends = record {
      low = n.low load *ℤ u -ℤ (s1.high +ℤ s2.high +ℤ s3.high +ℤ s4.high +ℤ s5.high +ℤ s6.high);
      high = n.high load *ℤ u -ℤ (s1.low +ℤ s2.low +ℤ s3.low +ℤ s4.low +ℤ s5.low +ℤ s6.low);
    } in r) ≡ row_residual n load row c
row-value n load row c e p1 p2 p3 p4 p5 p6 = λ i. record {
  low = n.low load *ℤ e i -ℤ ((p1 i).high +ℤ (p2 i).high +ℤ (p3 i).high +ℤ (p4 i).high +ℤ (p5 i).high +ℤ (p6 i).high);
  high = n.high load *ℤ e i -ℤ ((p1 i).low +ℤ (p2 i).low +ℤ (p3 i).low +ℤ (p4 i).low +ℤ (p5 i).low +ℤ (p6 i).low);
}
