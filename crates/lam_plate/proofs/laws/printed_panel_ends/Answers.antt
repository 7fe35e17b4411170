use Rattle.lam_plate.proofs.near.NearPanels.{printed-past}
use Rattle.lam_plate.proofs.laws.printed_panel_ends.Goals as goal

pub returns : goal.returns
returns g c = printed-past g.met.N.Enclosure.laws
