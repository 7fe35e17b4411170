use Rattle.std.proofs.Common.{sym, ◌∙◌}
use Rattle.lam_check.proofs.Seats.{item-in_no_split}
use Rattle.lam_check.proofs.cursor.Cursor.sit_at_item.Goals as goal

pub returns-in-None-clause-stray : goal.returns-in-None-clause-stray
returns-in-None-clause-stray g c = λ not_it word rest.
    item-in_no_split (g.P.Problem.basis c.args.problem.now) c.args.self.now c.requires.settled c.args.item (sym c.top.ensures ∙ c.in-None.is) word rest
