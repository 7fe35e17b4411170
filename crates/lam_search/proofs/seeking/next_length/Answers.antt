use Rattle.std.proofs.lemmas.List.{drop_all}
use Rattle.lam_search.proofs.SeekSteps.{length-cut, stray-length, other-length, item-length}
use Rattle.lam_search.proofs.seeking.next_length.Goals as goal

pub returns-then-at-nodes-clause-none : goal.returns-then-at-nodes-clause-none
returns-then-at-nodes-clause-none c = λ none count to_come job.
    length-cut count to_come c.args.n job _ (drop_all c.args.at c.args.nodes.now c.if-at-nodes.true)

pub returns-in-Length-clause-none : goal.returns-in-Length-clause-none
returns-in-Length-clause-none c = λ none count to_come job.
    stray-length count to_come c.args.n job c.args.nodes.now c.args.at _ c.if-at-nodes.false
    (other-length c.args.n c.in-Length.other _ _ c.word_if.result c.in-Length.is c.word_if.ensures none)

pub returns-in-Item-clause-none : goal.returns-in-Item-clause-none
returns-in-Item-clause-none c = λ none count to_come job.
    stray-length count to_come c.args.n job c.args.nodes.now c.args.at _ c.if-at-nodes.false (item-length c.args.n _ c.in-Item.field-0 c.in-Item.is)
