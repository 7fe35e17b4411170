use Rattle.std.proofs.Common.{sym, subst}
use Rattle.lam_tree.specs.Words.{IsTrueOf}
use Rattle.lam_check.proofs.closing.closes.Goals as goal

pub returns-in-Range-clause-so : goal.returns-in-Range-clause-so
returns-in-Range-clause-so c = λ it.
    subst (IsTrueOf c.args.stock.now c.args.job.now c.args.best c.args.partial.now) (sym c.in-Range.is)
    (c.is_judged_full.ensures.so c.args.best it)

pub returns-in-Fails-clause-so : goal.returns-in-Fails-clause-so
returns-in-Fails-clause-so c = λ it.
    subst (IsTrueOf c.args.stock.now c.args.job.now c.args.best c.args.partial.now) (sym c.in-Fails.is)
    (c.is_judged_full-in-Fails.ensures.so c.args.best it)

pub returns-in-Buckles-clause-so : goal.returns-in-Buckles-clause-so
returns-in-Buckles-clause-so c = λ it.
    subst (IsTrueOf c.args.stock.now c.args.job.now c.args.best c.args.partial.now) (sym c.in-Buckles.is)
    (c.is_judged_full-in-Buckles.ensures.so c.args.best it)

pub returns-in-Straddles-clause-so : goal.returns-in-Straddles-clause-so
returns-in-Straddles-clause-so c = λ it.
    subst (IsTrueOf c.args.stock.now c.args.job.now c.args.best c.args.partial.now) (sym c.in-Straddles.is)
    (c.is_judged_full-in-Straddles.ensures.so c.args.best it)

pub returns-in-Admissible-clause-so : goal.returns-in-Admissible-clause-so
returns-in-Admissible-clause-so c = λ it.
    subst (IsTrueOf c.args.stock.now c.args.job.now c.args.best c.args.partial.now) (sym c.in-Admissible.is)
    (c.is_judged_full-in-Admissible.ensures.so c.args.best it)
