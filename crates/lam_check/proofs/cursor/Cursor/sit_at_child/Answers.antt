use Rattle.std.proofs.Common.{sym, ◌∙◌, ap, inl, inr, arith, ◌<◌, ◌∷◌, length, subst}
use Rattle.lam_job.specs.declared.limits.TheConstants.{MOST_PLIES}
use Rattle.lam_check.proofs.Seats.{item-stray, item-due, item-at, some_to_come, room_below, room_for_item}
use Rattle.lam_check.proofs.cursor.Cursor.sit_at_child.Goals as goal

pub returns-then-item-items-clause-stray : goal.returns-then-item-items-clause-stray
returns-then-item-items-clause-stray g c = λ not_it word rest.
    let over = c.if-item-items.true in
    let is = c.items.ensures.value in
    item-stray (g.P.Problem.basis c.args.problem.now) c.args.self.now c.requires.settled c.args.item c.args.top c.requires.top (inl (omega (arith, over, is))) word rest

pub returns-then-has_had-clause-stray : goal.returns-then-has_had-clause-stray
returns-then-has_had-clause-stray g c = λ not_it word rest.
    item-stray (g.P.Problem.basis c.args.problem.now) c.args.self.now c.requires.settled c.args.item c.args.top c.requires.top (inr (sym c.has_had.ensures ∙ c.if-has_had.true)) word rest

pub with-requires-clause-some : goal.with-requires-clause-some
with-requires-clause-some g c = some_to_come (g.P.Problem.basis c.args.problem.now) c.args.self.now c.requires.settled c.args.top c.requires.top

pub push-requires : goal.push-requires
push-requires g c =
    subst (λ s. length s < MOST_PLIES) (sym c.pop.ensures) (room_below (g.P.Problem.basis c.args.problem.now) c.args.self.now c.requires.settled c.args.top c.requires.top)

pub go_down-requires : goal.go_down-requires
go_down-requires g c = room_for_item (g.P.Problem.basis c.args.problem.now) c.args.self.now c.requires.settled

pub returns-clause-due : goal.returns-clause-due
returns-clause-due g c = λ it word rest.
    let within = c.if-item-items.false in
    let is = c.items.ensures.value in
    item-due (g.P.Problem.basis c.args.problem.now) c.args.self.now c.requires.settled (record { partial = c.go_down.new.partial; splits = c.push.new.self }) c.args.item c.args.top c.with.result
    c.requires.top c.with.ensures.to_come (omega (arith, within, is)) (sym c.has_had.ensures ∙ c.if-has_had.false) c.with.ensures.had
    (c.push.ensures ∙ ap (λ s. c.with.result ∷ s) c.pop.ensures) c.go_down.ensures word rest

pub returns-clause-at : goal.returns-clause-at
returns-clause-at g c = λ it.
    let within = c.if-item-items.false in
    let is = c.items.ensures.value in
    item-at (g.P.Problem.basis c.args.problem.now) c.args.self.now c.requires.settled (record { partial = c.go_down.new.partial; splits = c.push.new.self }) c.args.item c.args.top c.with.result
    c.requires.top (omega (arith, within, is)) (c.push.ensures ∙ ap (λ s. c.with.result ∷ s) c.pop.ensures) c.go_down.ensures
