use Rattle.std.proofs.Common.{refl, sym, ◌∙◌, ap, arith, ◌+◌}
use Rattle.lam_check.proofs.Options.{one_is, none_is}
use Rattle.lam_check.proofs.Seats.{length-in_split, length-over, length-not_next, length-due, length-at}
use Rattle.lam_check.proofs.cursor.Cursor.sit_at_length.Goals as goal

pub returns-then-is_some-clause-stray : goal.returns-then-is_some-clause-stray
returns-then-is_some-clause-stray g c = λ not_it word rest.
    let top = one_is c.top.result c.is_some.result c.is_some.ensures c.if-is_some.true in
    length-in_split (g.P.Problem.basis c.args.problem.now) c.args.self.now c.requires.settled c.args.n top.0 (sym c.top.ensures ∙ top.1) word rest

pub returns-then-n-limit-clause-stray : goal.returns-then-n-limit-clause-stray
returns-then-n-limit-clause-stray g c = λ not_it word rest.
    let none = none_is c.top.result c.is_some.result c.is_some.ensures c.if-is_some.false in
    let over = c.if-n-limit.true in
    let is = c.limit.ensures.value in
    length-over (g.P.Problem.basis c.args.problem.now) c.args.self.now c.requires.settled c.args.n (sym c.top.ensures ∙ none) (omega (arith, over, is)) word rest

pub returns-then-n-length_of-clause-stray : goal.returns-then-n-length_of-clause-stray
returns-then-n-length_of-clause-stray g c = λ not_it word rest.
    let none = none_is c.top.result c.is_some.result c.is_some.ensures c.if-is_some.false in
    let other = c.if-n-length_of.true in
    let is = c.length_of.ensures in
    length-not_next (g.P.Problem.basis c.args.problem.now) c.args.self.now c.requires.settled c.args.n (sym c.top.ensures ∙ none) (λ e. other (e ∙ ap (λ n. n + 1) (sym is))) word rest

pub returns-clause-due : goal.returns-clause-due
returns-clause-due g c = λ it word rest.
    let none = none_is c.top.result c.is_some.result c.is_some.ensures c.if-is_some.false in
    let within = c.if-n-limit.false in
    let most = c.limit.ensures.value in
    let next = c.if-n-length_of.false in
    let is = c.length_of.ensures in
    length-due (g.P.Problem.basis c.args.problem.now) c.args.self.now c.requires.settled (record { partial = c.set_length.new.partial; splits = c.args.self.now.splits }) c.args.n
    (sym c.top.ensures ∙ none) (next ∙ ap (λ n. n + 1) is) (omega (arith, within, most)) c.set_length.ensures refl word rest

pub returns-clause-at : goal.returns-clause-at
returns-clause-at g c = λ it.
    let none = none_is c.top.result c.is_some.result c.is_some.ensures c.if-is_some.false in
    let within = c.if-n-limit.false in
    let most = c.limit.ensures.value in
    let few = c.limit.ensures.few in
    let next = c.if-n-length_of.false in
    let is = c.length_of.ensures in
    length-at (g.P.Problem.basis c.args.problem.now) c.args.self.now c.requires.settled (record { partial = c.set_length.new.partial; splits = c.args.self.now.splits }) c.args.n
    (sym c.top.ensures ∙ none) (next ∙ ap (λ n. n + 1) is) (omega (arith, within, most)) (omega (arith, within, few)) c.set_length.ensures refl
