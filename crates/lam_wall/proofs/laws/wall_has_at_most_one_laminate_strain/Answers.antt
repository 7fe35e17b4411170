use Rattle.lam_wall.proofs.CatalogueWalls.{listed-one_strain}
use Rattle.lam_wall.proofs.laws.wall_has_at_most_one_laminate_strain.Goals as goal

pub returns : goal.returns
returns c = λ numbers load f g some. listed-one_strain c.kept.ensures numbers some load f g
