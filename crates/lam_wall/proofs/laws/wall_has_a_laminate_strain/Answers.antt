use Rattle.lam_wall.proofs.CatalogueWalls.{listed-has_strain}
use Rattle.lam_wall.proofs.laws.wall_has_a_laminate_strain.Goals as goal

pub returns : goal.returns
returns c = λ numbers load some. listed-has_strain c.kept.ensures numbers some load
