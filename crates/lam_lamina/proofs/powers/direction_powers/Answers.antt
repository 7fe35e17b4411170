use Rattle.std.proofs.Common.{rules, subst, sym}
use Rattle.lam_lamina.specs.inside.Known.{ReachPowers}
use Rattle.lam_lamina.proofs.StiffnessKnown.{reach-powers}
use Rattle.lam_lamina.proofs.powers.direction_powers.Goals as goal

pub returns-clause-value : goal.returns-clause-value
returns-clause-value g c = search rules

pub returns-clause-reach : goal.returns-clause-reach
returns-clause-reach g c = subst (ReachPowers g.N.Enclosure.numbers) (sym (returns-clause-value g c)) (reach-powers g.met.N.Enclosure.laws c.squares-squares.ensures.direction)
