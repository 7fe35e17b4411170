use Rattle.std.proofs.Common.{rules, subst, sym}
use Rattle.lam_tsai.specs.inside.Reach.{ReachCoefficients}
use Rattle.lam_tsai.proofs.Reaching.{reach-coefficients}
use Rattle.lam_tsai.proofs.coefficients.coefficients_of.Goals as goal

pub returns-clause-value : goal.returns-clause-value
returns-clause-value g c = search rules

pub returns-clause-reach : goal.returns-clause-reach
returns-clause-reach g c = subst (ReachCoefficients g.N.Enclosure.numbers) (sym (returns-clause-value g c)) (reach-coefficients g.met.N.Enclosure.laws c.requires)
