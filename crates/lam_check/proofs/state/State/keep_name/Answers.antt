use Rattle.lam_check.proofs.Seats.{at_partial}
use Rattle.lam_check.proofs.state.State.keep_name.Goals as goal

pub complete-plies-requires-clause-partial : goal.complete-plies-requires-clause-partial
complete-plies-requires-clause-partial g c = at_partial (g.P.Problem.basis c.args.problem.now) c.args.self.now.cursor c.requires.at
