use Rattle.std.proofs.Common.{ℕ, subst, Option, IfSome}
use Rattle.lam_search.specs.inside.Here.{basis_of}
use Rattle.lam_search.specs.inside.Hints.{IsCheaper}
use Rattle.lam_search.proofs.closings.dear_below.Goals as goal

pub returns-then-is_limit-clause-none : goal.returns-then-is_limit-clause-none
returns-then-is_limit-clause-none c = λ none k case is.
    subst (λ (o : Option ℕ). IfSome o (λ limit. IsCheaper (basis_of c.args.design.now.stock.now c.args.design.now.job.now) limit c.args.partial.now))
    (c.is_limit.ensures c.if-is_limit.true) c.requires.hints.cheap k case is
