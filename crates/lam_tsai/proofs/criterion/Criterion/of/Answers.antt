use Rattle.std.proofs.Common.{subst, sym}
use Rattle.lam_tsai.specs.inside.Reach.{ReachCriterion}
use Rattle.lam_tsai.proofs.ItemFacts.{item-covered, item-strengths, reach-criterion}
use Rattle.lam_tsai.proofs.criterion.Criterion.of.Goals as goal

pub made-requires-clause-covered : goal.made-requires-clause-covered
made-requires-clause-covered g c = item-covered c.requires

pub made-requires-clause-strengths : goal.made-requires-clause-strengths
made-requires-clause-strengths g c = item-strengths c.requires

pub returns-clause-reach : goal.returns-clause-reach
returns-clause-reach g c = subst (ReachCriterion g.N.Enclosure.numbers) (sym c.made.ensures) (reach-criterion c.requires g.met.N.Enclosure.laws)
