use Rattle.lam_wall.proofs.WallForm.{form_between}
use Rattle.lam_wall.proofs.laws.form_between.Goals as goal

pub returns : goal.returns
returns c = form_between
