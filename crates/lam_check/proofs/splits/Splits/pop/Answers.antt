use Rattle.std.proofs.Common.{◌∙◌, ap, drop, arith}
use Rattle.lam_check.proofs.SplitSteps.{reverse-take-less}
use Rattle.lam_check.proofs.splits.Splits.pop.Goals as goal

pub returns-then-self-gt0 : goal.returns-then-self-gt0
returns-then-self-gt0 c =
    let i = c.self.invariant in
    reverse-take-less c.self.inside.items c.self.inside.len c.if-self-gt0.true (omega (arith, i)) ∙ ap (λ l. drop 1 l) c.self.view_is
