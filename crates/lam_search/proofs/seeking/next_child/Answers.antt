use Rattle.std.proofs.Common.{arith}
use Rattle.std.proofs.lemmas.List.{drop_all}
use Rattle.lam_search.specs.inside.Sights.{had_by}
use Rattle.lam_search.proofs.SeekSteps.{stray-cut, stray-line, no-item, past-item, had-item, table-has}
use Rattle.lam_search.proofs.seeking.next_child.Goals as goal

pub returns-then-at-nodes-clause-none : goal.returns-then-at-nodes-clause-none
returns-then-at-nodes-clause-none c = λ none T to_come p next.
    stray-cut c.args.count T to_come (had_by c.args.had.now) p _ next (drop_all c.args.at c.args.nodes.now c.if-at-nodes.true)

pub returns-in_default-clause-none : goal.returns-in_default-clause-none
returns-in_default-clause-none c = λ none T to_come p next.
    stray-line c.args.count T to_come (had_by c.args.had.now) p c.args.nodes.now c.args.at next _ c.if-at-nodes.false
    (no-item c.args.count (had_by c.args.had.now) _ c.in_default.not-Item)

pub returns-then-item-count-clause-none : goal.returns-then-item-count-clause-none
returns-then-item-count-clause-none c = λ none T to_come p next.
    stray-line c.args.count T to_come (had_by c.args.had.now) p c.args.nodes.now c.args.at next _ c.if-at-nodes.false
    (past-item c.args.count (had_by c.args.had.now) _ c.in-Item.item c.in-Item.is c.if-item-count.true)

pub returns-then-had-item-clause-none : goal.returns-then-had-item-clause-none
returns-then-had-item-clause-none c = λ none T to_come p next.
    let less = c.if-item-count.false in
    let few = c.requires.few in
    let long = c.told-had in
    stray-line c.args.count T to_come (had_by c.args.had.now) p c.args.nodes.now c.args.at next _ c.if-at-nodes.false
    (had-item c.args.count (had_by c.args.had.now) _ c.in-Item.item c.in-Item.is
    (table-has c.args.had.now c.in-Item.item.0 _ (omega (arith, less, few, long)) c.if-had-item.true))
