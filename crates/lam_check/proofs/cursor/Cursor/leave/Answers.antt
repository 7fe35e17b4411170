use Rattle.std.proofs.Common.{◌∙◌}
use Rattle.lam_check.specs.declared.cursor.Cursor.{Cursor}
use Rattle.lam_check.proofs.Seats.{done-reads, done-between, is_done}
use Rattle.lam_check.proofs.cursor.Cursor.leave.Goals as goal

pub up-preserved : goal.up-preserved
up-preserved g c =
    let done = is_done c.up.self.splits (c.is_done.ensures.0 c.up-test.true) in
    let after : Cursor = record { partial = c.go_up-in-up.new.partial; splits = c.pop.new.self } in
    record {
      reads = λ rest. c.up.invariant.reads rest ∙ done-reads (g.P.Problem.basis c.args.problem.now) c.up.self after done.0 c.up.invariant.between done.1 c.go_up-in-up.ensures c.pop.ensures done.2 rest;
      between = done-between (g.P.Problem.basis c.args.problem.now) c.up.self after done.0 c.up.invariant.between done.1 c.go_up-in-up.ensures c.pop.ensures;
    }
