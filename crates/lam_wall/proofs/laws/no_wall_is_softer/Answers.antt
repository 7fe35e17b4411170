use Rattle.lam_wall.proofs.CatalogueWalls.{listed-energy}
use Rattle.lam_wall.proofs.laws.no_wall_is_softer.Goals as goal

pub returns : goal.returns
returns c = λ numbers. listed-energy c.kept.ensures numbers
