use Rattle.lam_check.proofs.Seats.{at_partial}
use Rattle.lam_check.proofs.state.State.keep_cost.Goals as goal

pub complete-requires-clause-partial : goal.complete-requires-clause-partial
complete-requires-clause-partial g c = at_partial (g.P.Problem.basis c.args.problem.now) c.args.self.now.cursor c.requires.at
