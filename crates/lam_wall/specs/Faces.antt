-- The faces of the plies of a wall.
use Rattle.std.specs.Prelude.{ℤ, neg_ℤ, List, ◌∷◌, map}
use Rattle.lam_stock.specs.declared.item.Item.{Item}
use Rattle.lam_job.specs.Wall.{placed_plies, wall_thickness}

-- z of each face of a wall, in half µm outwards of the mid-plane: of the inner surface, and of the outer face of each ply
abbrev pub faces : List Item → List ℤ
faces wall = neg_ℤ (wall_thickness wall) ∷ map (λ p. p.outer) (placed_plies wall)
