use Rattle.lam_plate.proofs.near.NearPanels.{straddles-near}
use Rattle.lam_plate.proofs.laws.straddles_near_factor.Goals as goal

pub returns : goal.returns
returns g c = straddles-near g.met.N.Enclosure.laws
