use Rattle.lam_narrow.proofs.CloseValues.{values_are_close}
use Rattle.lam_narrow.proofs.laws.values_are_close.Goals as goal

pub returns : goal.returns
returns c = values_are_close
