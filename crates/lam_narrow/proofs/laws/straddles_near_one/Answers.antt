use Rattle.lam_narrow.proofs.Verdicts.{straddles_near_one}
use Rattle.lam_narrow.proofs.laws.straddles_near_one.Goals as goal

pub returns : goal.returns
returns g c = straddles_near_one g.met.N.Enclosure.laws
