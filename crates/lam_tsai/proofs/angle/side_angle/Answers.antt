use Rattle.std.proofs.Common.{rules, subst, sym}
use Rattle.lam_tsai.specs.inside.Reach.{ReachAngle}
use Rattle.lam_tsai.proofs.Reaching.{reach-angle}
use Rattle.lam_tsai.proofs.angle.side_angle.Goals as goal

pub returns-clause-value : goal.returns-clause-value
returns-clause-value g c = search rules

pub returns-clause-reach : goal.returns-clause-reach
returns-clause-reach g c = subst (ReachAngle g.N.Enclosure.numbers) (sym (returns-clause-value g c)) (reach-angle c.squares-squares.ensures.direction g.met.N.Enclosure.laws c.args.side)
