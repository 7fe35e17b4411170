-- A wall as a list of plies, from the inside to the outside.
-- z points outwards from the mid-plane. It is doubled and in µm, so that it is a whole number at each interface.
use Rattle.std.specs.Prelude.{ℤ, pos, neg_ℤ, ◌+ℤ◌, ◌*ℤ◌, List, [], ◌∷◌}
use Rattle.lam_stock.specs.declared.item.Item.{Item}

-- the sum of the plies' thicknesses, in µm
abbrev pub wall_thickness : List Item → ℤ
wall_thickness [] = pos 0
wall_thickness (i ∷ rest) = i.lamina.t +ℤ wall_thickness rest

-- a ply of a wall, with z of its inner and its outer face
pub record Placed : Type 0 where
  pub item : Item
  pub inner : ℤ
  pub outer : ℤ

-- plies laid one on the other, from a z on
abbrev pub placed_from : ℤ → List Item → List Placed
placed_from z [] = []
placed_from z (i ∷ rest) =
    record { item = i; inner = z; outer = z +ℤ pos 2 *ℤ i.lamina.t } ∷ placed_from (z +ℤ pos 2 *ℤ i.lamina.t) rest

-- the plies of a wall, whose inner surface lies half its thickness inwards of the mid-plane
abbrev pub placed_plies : List Item → List Placed
placed_plies wall = placed_from (neg_ℤ (wall_thickness wall)) wall
