use Rattle.std.proofs.Common.{rules}
use Rattle.lam_tsai.proofs.criterion.made.Goals as goal

pub returns : goal.returns
returns g c = search rules
