use Rattle.lam_bounds.proofs.Walking.{sum-carried, short-value, short-truth}
use Rattle.lam_bounds.proofs.running.net_short_at.Goals as goal

pub is_short-requires : goal.is_short-requires
is_short-requires c = sum-carried c.requires.partial c.requires.bounds c.requires.sums c.args.weight c.requires.weight

pub returns-clause-value : goal.returns-clause-value
returns-clause-value c = λ w tried.
    short-value c.requires.partial c.requires.bounds c.requires.sums c.args.weight c.args.case w c.is_short.result c.requires.weight c.requires.case tried c.is_short.ensures

pub returns-clause-so : goal.returns-clause-so
returns-clause-so c =
    short-truth c.requires.partial c.requires.bounds c.requires.sums c.args.weight c.args.case c.is_short.result c.requires.weight c.requires.case c.is_short.ensures
