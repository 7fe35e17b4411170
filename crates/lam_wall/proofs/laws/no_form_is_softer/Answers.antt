use Rattle.lam_wall.proofs.CatalogueWalls.{listed-form}
use Rattle.lam_wall.proofs.laws.no_form_is_softer.Goals as goal

pub returns : goal.returns
returns c = λ numbers m e k some. listed-form c.kept.ensures numbers some m e k
