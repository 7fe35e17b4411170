use Rattle.std.proofs.Common.{subst, ℕ, Option, IsTrue}
use Rattle.lam_tree.specs.Closings.{IsSound}
use Rattle.lam_answers.specs.inside.Computed.{computed}
use Rattle.lam_check.specs.inside.Given.{Given}
use Rattle.lam_check.proofs.design.DesignProblem.closes.Goals as goal

pub returns-clause-value : goal.returns-clause-value
returns-clause-value c =
    subst (λ (g : Given). (incumbent : Option ℕ)
    → (IsTrue c.closes.result → IsSound g.stock g.job (computed g.stock g.job) c.args.best incumbent c.args.partial.now c.args.word)
    × (IsSound g.stock g.job (computed g.stock g.job) c.args.best incumbent c.args.partial.now c.args.word → IsTrue c.closes.result))
    c.self.view_is c.closes.ensures.value
