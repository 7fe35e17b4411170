use Rattle.std.proofs.Common.{◌∙◌, ap, subst, ℕ, List, Option}
use Rattle.lam_tree.specs.declared.node.Node.{Node}
use Rattle.lam_tree.specs.Reading.{read}
use Rattle.lam_tree.specs.Checks.{best_cost}
use Rattle.lam_search.specs.inside.Here.{basis_of}
use Rattle.lam_search.specs.inside.Outcome.{ending_of, answer_seen}
use Rattle.lam_search.specs.inside.Sights.{SeesAll}
use Rattle.lam_search.proofs.Endings.{cut-answer, whole-answer}
use Rattle.lam_search.proofs.searching.answer_of.Goals as goal

pub returns-in-Cut : goal.returns-in-Cut
returns-in-Cut c =
    let stock = c.args.design.now.stock.now in
    let job = c.args.design.now.job.now in
    cut-answer (basis_of stock job) (read stock job c.args.state.now.tree) (c.requires.ending ∙ ap ending_of c.in-Cut.is)

pub returns-in-Whole : goal.returns-in-Whole
returns-in-Whole c =
    let stock = c.args.design.now.stock.now in
    let job = c.args.design.now.job.now in
    let m = basis_of stock job in
    let tree = c.args.state.now.tree in
    let best = best_cost c.args.state.now.best in
    let sees = subst (λ (nodes : List Node). SeesAll m best nodes (read stock job nodes) c.seek_all.result) c.nodes.ensures
    (subst (λ (o : Option ℕ). SeesAll m o c.nodes.result.now (read stock job c.nodes.result.now) c.seek_all.result) c.incumbent.ensures c.seek_all.ensures) in
    c.whole_answer.ensures
    ∙ ap (λ (o : Option ℕ). answer_seen o c.seek_all.result) c.incumbent-in-Whole.ensures
    ∙ whole-answer m (read stock job tree) tree best c.seek_all.result (c.requires.ending ∙ ap ending_of c.in-Whole.is) c.requires.cost sees
