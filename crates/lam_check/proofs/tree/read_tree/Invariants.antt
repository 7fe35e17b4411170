use Rattle.std.proofs.Common.{◌≡◌, ◌+◌, length}
use Rattle.lam_check.proofs.Loop.{HasRead}
use Rattle.lam_check.proofs.tree.read_tree.Given as goal

abbrev pub invariant-lines : goal.invariant-lines
invariant-lines g l =
    let rest = g.L.Lines.rest in
    record {
      has_read : HasRead (g.P.Problem.basis l.problem) l.answer l.best l.first (rest l.initial.lines) (rest l.lines) l.state;
      at : l.line + length (rest l.lines) ≡ l.first + length (rest l.initial.lines);
    }

abbrev pub decreases-lines : goal.decreases-lines
decreases-lines g l = length (g.L.Lines.rest l.lines)
