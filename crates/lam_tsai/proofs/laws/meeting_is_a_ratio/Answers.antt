use Rattle.lam_tsai.proofs.CaseRatios.{ply-ratio, case-ratio}
use Rattle.lam_tsai.proofs.laws.meeting_is_a_ratio.Goals as goal

pub returns-clause-ply : goal.returns-clause-ply
returns-clause-ply g c = ply-ratio g.met.N.Enclosure.laws

pub returns-clause-case : goal.returns-clause-case
returns-clause-case g c = case-ratio g.met.N.Enclosure.laws
