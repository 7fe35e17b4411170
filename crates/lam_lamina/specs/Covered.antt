-- The laminae of a catalogue.
use Rattle.std.specs.Prelude.{ℤ, pos, ◌≤ℤ◌}
use Rattle.lam_stock.specs.Limits.{ModuliInRange, KeepsPoisson}
use Rattle.lam_stock.specs.Moduli.{stiffness_cap}
use Rattle.lam_stock.specs.declared.item.Lamina.{Lamina}

-- the lamina keeps the limits on moduli, and the scale's q0 covers it
pub record IsCovered (q0 : ℤ) (l : Lamina) : Type 0 where
  pub range : ModuliInRange l
  pub poisson : KeepsPoisson l
  pub covered : stiffness_cap l ≤ℤ q0
  pub greatest : q0 ≤ℤ pos 4194304
