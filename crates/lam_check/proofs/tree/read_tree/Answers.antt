use Rattle.std.proofs.Common.{◌≡◌, refl, ap, subst, suc, List, length, arith}
use Rattle.lam_tree.specs.declared.node.Node.{Node}
use Rattle.lam_check.proofs.Loop.{HasRead, read-start, read-next, read-stop}
use Rattle.lam_check.proofs.tree.read_tree.Goals as goal

pub lines-init : goal.lines-init
lines-init g c = record {
  has_read = read-start (g.P.Problem.basis c.args.problem.now) c.args.answer.now c.args.best c.args.first (g.L.Lines.rest c.args.lines.now) c.new-state.result
      c.new-state.ensures.start c.new-state.ensures.incumbent c.new-state.ensures.named c.new-state.ensures.settled;
  at = refl;
}

pub returns-in-Err-clause-fault : goal.returns-in-Err-clause-fault
returns-in-Err-clause-fault g c =
    let m = (g.P.Problem.basis c.args.problem.now) in
    let rest = g.L.Lines.rest in
    let here = c.lines.invariant.at in
    let long : length (rest c.lines.lines) ≡ suc (length (rest c.next_line.new.self)) = ap length c.in-Some.ensures.some in
    read-stop m c.args.answer.now c.args.best c.args.first c.lines.line (rest c.args.lines.now) (rest c.next_line.new.self) c.lines.state c.in-Some.node c.in-Err.cause
    (subst (λ (lines : List Node). HasRead m c.args.answer.now c.args.best c.args.first (rest c.args.lines.now) lines c.lines.state) c.in-Some.ensures.some c.lines.invariant.has_read)
    (omega (arith, here, long)) c.in-Err.ensures.err

pub lines-preserved : goal.lines-preserved
lines-preserved g c =
    let m = (g.P.Problem.basis c.args.problem.now) in
    let rest = g.L.Lines.rest in
    let here = c.lines.invariant.at in
    let long : length (rest c.lines.lines) ≡ suc (length (rest c.next_line.new.self)) = ap length c.in-Some.ensures.some in
    record {
      has_read = read-next m c.args.answer.now c.args.best c.args.first (rest c.args.lines.now) (rest c.next_line.new.self) c.lines.state c.read_line.new.self c.in-Some.node
          (subst (λ (lines : List Node). HasRead m c.args.answer.now c.args.best c.args.first (rest c.args.lines.now) lines c.lines.state) c.in-Some.ensures.some c.lines.invariant.has_read)
          c.in_default-read_line.ensures.ok;
      at = omega (arith, here, long);
    }
