use Rattle.lam_sharp.proofs.Places.{hangs_where_near}
use Rattle.lam_sharp.proofs.laws.hangs_where_near.Goals as goal

pub returns : goal.returns
returns c = hangs_where_near
