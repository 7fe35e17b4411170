-- Walls of which a verdict straddles only near its factor.
use Rattle.std.specs.Prelude.{◌≡◌}
use Rattle.lam_fraction.specs.numbers.Numbers.{Numbers}
use Rattle.lam_lamina.specs.Held.{NarrowMatrix}
use Rattle.lam_wall.specs.declared.wall.Wall.{Wall}

-- the enclosures of a wall are of the finer scale, and its D is as narrow as an assembled wall's
pub record IsFine {A : Type 0} (n : Numbers A) (w : Wall A) : Type 0 where
  pub scale : n.scale ≡ 60
  pub narrow : NarrowMatrix 512 n w.d
