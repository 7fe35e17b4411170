use Rattle.std.proofs.Common.{◌≡◌, List, length}
use Rattle.lam_tree.specs.declared.node.Node.{Node}
use Rattle.lam_check.specs.inside.Machine.{left, IsBetween}
use Rattle.lam_check.proofs.cursor.Cursor.leave.Given as goal

abbrev pub invariant-up : goal.invariant-up
invariant-up g l =
    record {
      reads : (rest : List Node) → left (g.P.Problem.basis l.problem) l.initial.self rest ≡ left (g.P.Problem.basis l.problem) l.self rest;
      between : IsBetween (g.P.Problem.basis l.problem) l.self;
    }

abbrev pub decreases-up : goal.decreases-up
decreases-up g l = length l.self.splits
