use Rattle.std.proofs.Common.{◌≡◌, ◌∙◌, ◌+◌, ap, subst, sym, length, length-append, ℕ, List, Option, Ok, Err, [], ◌∷◌, arith}
use Rattle.lam_tree.specs.declared.node.Node.{Node}
use Rattle.lam_tree.specs.inside.LineReading.{node_of}
use Rattle.lam_report.specs.inside.Reading.{listed_at}
use Rattle.lam_report.specs.inside.ReportReading.{nodes_at}
use Rattle.lam_report.proofs.ListLoops.{SoFar, goes_on, stops, is_whole}
use Rattle.lam_report.proofs.read.nodes.Goals as goal

pub returns-in_default : goal.returns-in_default
unfolding nodes_at
returns-in_default c =
    let items = length c.items.result.now in
    let read : ℕ → List ℕ → Option Node = λ i. node_of items in
    let got = c.in_default.ensures in
    let old = c.args.lines.now.lines in (
      subst (λ n. listed_at (λ i. node_of n) 0 c.args.count old ≡ Err c.take_node.new.lines.lines) (ap length c.items.ensures.items)
          (stops read c.args.count c.loop-place._place c.loop-place.tree c.loop-place.lines.lines old c.take_node.new.lines.lines c.loop-place-test.true c.loop-place.invariant.read got.0),
      got.1 ∙ c.loop-place.invariant.tail,
    )

pub loop-place-preserved : goal.loop-place-preserved
loop-place-preserved c =
    let items = length c.items.result.now in
    let read : ℕ → List ℕ → Option Node = λ i. node_of items in
    let got = c.in-Some.ensures in
    let pushed = ap length c.in-Ok.ensures.pushed in
    let one = length-append c.loop-place.tree (c.in-Some.node ∷ []) in
    let long = c.loop-place.invariant.long in
    record {
      read = subst (λ (f : List Node). SoFar read c.args.count (c.loop-place._place + 1) f c.take_node.new.lines.lines c.args.lines.now.lines) (sym c.in-Ok.ensures.pushed)
          (goes_on read c.args.count c.loop-place._place c.loop-place.tree c.loop-place.lines.lines c.args.lines.now.lines c.take_node.new.lines.lines c.in-Some.node c.loop-place-test.true c.loop-place.invariant.read got.0);
      tail = got.1 ∙ c.loop-place.invariant.tail;
      long = omega (arith, pushed, one, long);
    }

pub returns : goal.returns
unfolding nodes_at
returns c =
    let items = length c.items.result.now in
    let read : ℕ → List ℕ → Option Node = λ i. node_of items in
    let old = c.args.lines.now.lines in (
      subst (λ n. listed_at (λ i. node_of n) 0 c.args.count old ≡ Ok (c.loop-place.tree, c.loop-place.lines.lines)) (ap length c.items.ensures.items)
          (is_whole read c.args.count c.loop-place._place c.loop-place.tree c.loop-place.lines.lines old c.loop-place-test.false c.loop-place.invariant.read),
      c.loop-place.invariant.tail,
    )
