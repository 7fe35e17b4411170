use Rattle.std.proofs.Common.{refl, sym, ◌∙◌, ap, None}
use Rattle.lam_tree.specs.Reading.{Reading}
use Rattle.lam_tree.specs.Checks.{final}
use Rattle.lam_search.specs.inside.Here.{basis_of}
use Rattle.lam_search.proofs.Endings.{searched-so, found-so}
use Rattle.lam_search.proofs.searching.search_in.Goals as goal

pub answer_of-answer-requires-clause-ending : goal.answer_of-answer-requires-clause-ending
answer_of-answer-requires-clause-ending g c =
    let m = basis_of c.args.design.now.stock.now c.args.design.now.job.now in
    let s = searched-so m c.args.budget (record { tree = c.new.result; best = None }) c.walk_lengths.new.state c.new.ensures refl c.in_ok-flow.flow c.in_ok-flow.ensures.searched in
    ap (λ (r : Reading). r.ending) s.reads

pub answer_of-answer-requires-clause-cost : goal.answer_of-answer-requires-clause-cost
answer_of-answer-requires-clause-cost g c =
    let m = basis_of c.args.design.now.stock.now c.args.design.now.job.now in
    let s = searched-so m c.args.budget (record { tree = c.new.result; best = None }) c.walk_lengths.new.state c.new.ensures refl c.in_ok-flow.flow c.in_ok-flow.ensures.searched in
    s.cost ∙ ap (final m.stock m.job) (sym (ap (λ (r : Reading). r.visits) s.reads))

pub returns-clause-found : goal.returns-clause-found
returns-clause-found g c =
    let m = basis_of c.args.design.now.stock.now c.args.design.now.job.now in
    let s = searched-so m c.args.budget (record { tree = c.new.result; best = None }) c.walk_lengths.new.state c.new.ensures refl c.in_ok-flow.flow c.in_ok-flow.ensures.searched in
    found-so m c.args.budget c.in_ok-flow.flow c.walk_lengths.new.state c.answer_of-answer.result c.requires.some c.requires.ready.are_bounds.valid.limit.least s
    c.in_ok-flow.ensures.kept c.walk_lengths.ensures.few c.answer_of-answer.ensures
