use Rattle.std.proofs.Common.{subst, ◌↔◌, IsOk}
use Rattle.lam_tree.specs.Checks.{Accepts}
use Rattle.lam_answers.specs.inside.Computed.{computed}
use Rattle.lam_check.proofs.checking.check.Goals as goal

pub returns-clause-accepts : goal.returns-clause-accepts
returns-clause-accepts c =
    subst (λ tree. IsOk c.check_claims.result ↔ Accepts c.args.stock.now c.args.job.now (computed c.args.stock.now c.args.job.now) (record c.args.report.now { tree = tree }))
    c.nodes-2.ensures c.check_claims.ensures.accepts
