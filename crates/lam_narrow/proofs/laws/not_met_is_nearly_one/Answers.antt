use Rattle.lam_narrow.proofs.Verdicts.{not_met_is_nearly_one}
use Rattle.lam_narrow.proofs.laws.not_met_is_nearly_one.Goals as goal

pub returns : goal.returns
returns g c = not_met_is_nearly_one g.met.N.Enclosure.laws
