-- The stiffness bounds of a lamina: its cap and its floor.
use Rattle.std.specs.Prelude.{ℤ, pos, ◌+ℤ◌, ◌*ℤ◌, int_div}
use Rattle.std.specs.Int.{int_max, int_min}
use Rattle.lam_stock.specs.declared.item.Lamina.{Lamina}

-- the greater of 2(E1 + E2) and 2 G12
abbrev pub stiffness_cap : Lamina → ℤ
stiffness_cap l = int_max (pos 2 *ℤ (l.e1 +ℤ l.e2)) (pos 2 *ℤ l.g12)

-- the lesser of the whole part of E1 E2 / (E1 + E2) and of 2 G12
abbrev pub stiffness_floor : Lamina → ℤ
stiffness_floor l = int_min (int_div (l.e1 *ℤ l.e2) (l.e1 +ℤ l.e2)) (pos 2 *ℤ l.g12)
