use Rattle.lam_check.proofs.Seats.{start, start-settled}
use Rattle.lam_check.proofs.cursor.Cursor.new.Goals as goal

pub returns-clause-start : goal.returns-clause-start
returns-clause-start g c =
    start (g.P.Problem.basis c.args.problem.now) (record { partial = c.at_start.result; splits = c.new.result }) c.no_plies.result c.no_plies.ensures c.at_start.ensures c.new.ensures

pub returns-clause-settled : goal.returns-clause-settled
returns-clause-settled g c =
    start-settled (g.P.Problem.basis c.args.problem.now) (record { partial = c.at_start.result; splits = c.new.result }) c.no_plies.result c.no_plies.ensures c.at_start.ensures c.new.ensures
