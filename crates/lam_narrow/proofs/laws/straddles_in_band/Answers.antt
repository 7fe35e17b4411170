use Rattle.lam_narrow.proofs.Verdicts.{straddles_in_band}
use Rattle.lam_narrow.proofs.laws.straddles_in_band.Goals as goal

pub returns : goal.returns
returns g c = straddles_in_band g.met.N.Enclosure.laws
