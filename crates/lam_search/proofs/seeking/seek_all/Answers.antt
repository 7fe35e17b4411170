use Rattle.std.proofs.Common.{◌≡◌, refl, sym, ap, subst, ℕ, ◌+◌, ◌-◌, List, [], length, drop, get_or, Option, arith}
use Rattle.std.proofs.lemmas.List.{drop_all}
use Rattle.lam_stock.specs.declared.item.ItemNo.{ItemNo}
use Rattle.lam_job.specs.JobData.{JobData}
use Rattle.lam_job.specs.Partial.{half}
use Rattle.lam_rules.specs.Conditions.{IsPartial}
use Rattle.lam_tree.specs.declared.node.Node.{Node}
use Rattle.lam_tree.specs.declared.node.Seat.TheVariants as seat
use Rattle.lam_tree.specs.declared.node.Word.{Word}
use Rattle.lam_tree.specs.declared.node.Word.TheVariants as word
use Rattle.lam_tree.specs.Reading.{root, tree}
use Rattle.lam_search.specs.declared.seeking.Sight.{Sight}
use Rattle.lam_search.specs.declared.seeking.Sight.TheVariants.{Passed}
use Rattle.lam_search.specs.inside.Here.{Basis, basis_of}
use Rattle.lam_search.specs.inside.Sights.{Sees}
use Rattle.lam_search.proofs.Places.{root-partial}
use Rattle.lam_search.proofs.SeekSteps.{lines-at, lengths-begin, lengths-more, sees-length, sees-cut, all-passed, more-lost}
use Rattle.lam_search.proofs.seeking.seek_all.Goals as goal

abbrev no_node : Node
no_node = record { seat = seat.Length 0; word = word.Split }

-- of a length, in the words of its root
of-root : (m : Basis) (best : Option ℕ) (nodes : List Node) (n : ℕ) (w : Word) (from : ℕ) (prefix : List ItemNo) (sight : Sight) → prefix ≡ []
    → Sees m best nodes (tree (length m.stock) (half m.job n - length prefix) (record { n = n; prefix = prefix }) w (drop from nodes)) sight
    → Sees m best nodes (tree (length m.stock) (half m.job n - length (root n).prefix) (root n) w (drop from nodes)) sight
of-root m best nodes n w from prefix sight none sees =
    subst (λ (l : List ItemNo). Sees m best nodes (tree (length m.stock) (half m.job n - length l) (record { n = n; prefix = l }) w (drop from nodes)) sight) none sees

pub loop-n-init : goal.loop-n-init
loop-n-init c = lengths-begin (basis_of c.args.design.now.stock.now c.args.design.now.job.now) c.args.best c.args.nodes.now

pub returns-in_default : goal.returns-in_default
returns-in_default c =
    let m = basis_of c.args.design.now.stock.now c.args.design.now.job.now in
    let same = ap (λ (j : JobData). j.limit) c.job.view_is in
    let less = c.loop-n-test.true in
    sees-cut m c.args.best c.args.nodes.now c.loop-n.n c.loop-n.at c.loop-n.invariant (omega (arith, same, less)) (c.in_default.ensures.none refl)

pub seek-sight-requires-clause-partial : goal.seek-sight-requires-clause-partial
seek-sight-requires-clause-partial c =
    let stock = c.args.design.now.stock.now in
    let job = c.args.design.now.job.now in
    let same = ap (λ (j : JobData). j.limit) c.job.view_is in
    let less = c.loop-n-test.true in
    let most = c.requires.are_bounds.valid.limit.greatest in
    subst (λ (l : List ItemNo). IsPartial stock job (record { n = c.loop-n.n; prefix = l })) (sym c.new.ensures)
    (root-partial stock job c.loop-n.n c.loop-n.auto.n (omega (arith, same, less, most)))

pub returns-in_default-sight : goal.returns-in_default-sight
returns-in_default-sight c =
    let m = basis_of c.args.design.now.stock.now c.args.design.now.job.now in
    let nodes = c.args.nodes.now in
    let same = ap (λ (j : JobData). j.limit) c.job.view_is in
    let less = c.loop-n-test.true in
    sees-length m c.args.best nodes c.loop-n.n c.loop-n.at c.loop-n.invariant c.in-Some.word c.seek-sight.result (omega (arith, same, less)) c.in-Some.ensures.some
    c.in_default-sight.not-Passed
    (of-root m c.args.best nodes c.loop-n.n c.in-Some.word (c.loop-n.at + 1) c.new.result c.seek-sight.result c.new.ensures c.seek-sight.ensures)

pub loop-n-preserved : goal.loop-n-preserved
loop-n-preserved c =
    let m = basis_of c.args.design.now.stock.now c.args.design.now.job.now in
    let nodes = c.args.nodes.now in
    let same = ap (λ (j : JobData). j.limit) c.job.view_is in
    let less = c.loop-n-test.true in
    lengths-more m c.args.best nodes c.loop-n.n c.loop-n.at c.loop-n.invariant c.in-Some.word c.in-Passed.to (omega (arith, same, less)) c.in-Some.ensures.some
    (of-root m c.args.best nodes c.loop-n.n c.in-Some.word (c.loop-n.at + 1) c.new.result (Passed c.in-Passed.to) c.new.ensures c.in-Passed.ensures)

pub returns-then-at-nodes : goal.returns-then-at-nodes
returns-then-at-nodes c =
    let m = basis_of c.args.design.now.stock.now c.args.design.now.job.now in
    let nodes = c.args.nodes.now in
    let same = ap (λ (j : JobData). j.limit) c.job.view_is in
    let past = c.loop-n-test.false in
    more-lost m c.args.best nodes c.loop-n.n c.loop-n.at c.loop-n.invariant (omega (arith, same, past)) (get_or nodes c.loop-n.at no_node) (drop (c.loop-n.at + 1) nodes)
    (lines-at nodes c.loop-n.at no_node c.if-at-nodes.true)

pub returns : goal.returns
returns c =
    let m = basis_of c.args.design.now.stock.now c.args.design.now.job.now in
    let nodes = c.args.nodes.now in
    let same = ap (λ (j : JobData). j.limit) c.job.view_is in
    let past = c.loop-n-test.false in
    all-passed m c.args.best nodes c.loop-n.n c.loop-n.at c.loop-n.invariant (omega (arith, same, past)) (drop_all c.loop-n.at nodes c.if-at-nodes.false)
