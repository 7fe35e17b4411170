use Rattle.std.proofs.Common.{refl, inl, ℕ, Option}
use Rattle.lam_tree.specs.declared.node.Word.TheVariants as word
use Rattle.lam_tree.specs.declared.report.Answer.{Answer}
use Rattle.lam_check.specs.declared.state.State.{State}
use Rattle.lam_check.specs.inside.Machine.{left_at}
use Rattle.lam_check.specs.inside.Steps.{Passes, PassesLine, Stops, StopsLine}
use Rattle.lam_check.proofs.LineSteps.{on_ok, if_err, passes_line, stops_line}
use Rattle.lam_check.proofs.state.State.read_line.Goals as goal

pub returns-then-not-sit-clause-err : goal.returns-then-not-sit-clause-err
returns-then-not-sit-clause-err g c =
    inl (record { reads = λ rest. c.sit.ensures.stray c.if-not-sit.true c.args.node.now.word rest; cause_is = refl })

pub returns-in-Split-clause-ok : goal.returns-in-Split-clause-ok
returns-in-Split-clause-ok g c =
    let m = (g.P.Problem.basis c.args.problem.now) in
    let before = c.args.self.now in
    let seated : State = record { cursor = c.sit.new.self; incumbent = before.incumbent; named = before.named } in
    on_ok c.split.result
    ((given : Answer) (best : Option ℕ) → Passes m given best (left_at m c.sit.new.self word.Split) seated c.split.new.self c.sit.new.self.partial word.Split)
    (PassesLine m c.args.answer.now c.args.best before c.split.new.self c.args.node.now)
    (λ by. passes_line m c.args.best before c.args.node.now c.sit.new.self word.Split c.in-Split.is (c.sit.ensures.due c.if-not-sit.false)
    c.args.answer.now c.split.new.self (by c.args.answer.now c.args.best))
    c.split.ensures.ok

pub returns-in-Split-clause-err : goal.returns-in-Split-clause-err
returns-in-Split-clause-err g c =
    let m = (g.P.Problem.basis c.args.problem.now) in
    let before = c.args.self.now in
    let seated : State = record { cursor = c.sit.new.self; incumbent = before.incumbent; named = before.named } in
    if_err c.split.result
    (λ cause. (best : Option ℕ) → Stops m best (left_at m c.sit.new.self word.Split) seated cause c.sit.new.self.partial word.Split)
    (λ cause. StopsLine m c.args.best before cause c.args.node.now)
    (λ cause by. stops_line m c.args.best before c.args.node.now c.sit.new.self word.Split c.in-Split.is (c.sit.ensures.due c.if-not-sit.false)
    cause (by c.args.best))
    c.split.ensures.err

pub returns-in_default-clause-ok : goal.returns-in_default-clause-ok
returns-in_default-clause-ok g c =
    let m = (g.P.Problem.basis c.args.problem.now) in
    let before = c.args.self.now in
    let w = c.args.node.now.word in
    let seated : State = record { cursor = c.sit.new.self; incumbent = before.incumbent; named = before.named } in
    on_ok c.close.result
    (Passes m c.args.answer.now c.args.best (left_at m c.sit.new.self w) seated c.close.new.self c.sit.new.self.partial w)
    (PassesLine m c.args.answer.now c.args.best before c.close.new.self c.args.node.now)
    (passes_line m c.args.best before c.args.node.now c.sit.new.self w refl (c.sit.ensures.due c.if-not-sit.false)
    c.args.answer.now c.close.new.self)
    c.close.ensures.ok

pub returns-in_default-clause-err : goal.returns-in_default-clause-err
returns-in_default-clause-err g c =
    let m = (g.P.Problem.basis c.args.problem.now) in
    let before = c.args.self.now in
    let w = c.args.node.now.word in
    let seated : State = record { cursor = c.sit.new.self; incumbent = before.incumbent; named = before.named } in
    if_err c.close.result
    (λ cause. Stops m c.args.best (left_at m c.sit.new.self w) seated cause c.sit.new.self.partial w)
    (λ cause. StopsLine m c.args.best before cause c.args.node.now)
    (stops_line m c.args.best before c.args.node.now c.sit.new.self w refl (c.sit.ensures.due c.if-not-sit.false))
    c.close.ensures.err
