use Rattle.std.proofs.Common.{◌≡◌, ◌∙◌, ◌++◌, ap, subst, length, ℕ, List, Option, Ok, Err, [], ◌∷◌}
use Rattle.lam_tree.specs.declared.node.Node.{Node}
use Rattle.lam_tree.specs.inside.LineReading.{node_of}
use Rattle.lam_report.specs.inside.Reading.{listed_at}
use Rattle.lam_report.specs.inside.ReportReading.{nodes_at}
use Rattle.lam_report.proofs.ListLoops.{goes_on, stops, is_whole}
use Rattle.lam_report.proofs.read.passes_nodes.Goals as goal

pub returns-in_default : goal.returns-in_default
unfolding nodes_at
returns-in_default c =
    let items = length c.items.result.now in
    let read : ℕ → List ℕ → Option Node = λ i. node_of items in
    let got = c.in_default.ensures in
    let old = c.args.lines.now.lines in
    let so_far = c.loop-place.invariant.read in (
      subst (λ n. listed_at (λ i. node_of n) 0 c.args.count old ≡ Err c.take_node.new.lines.lines) (ap length c.items.ensures.items)
          (stops read c.args.count c.loop-place._place so_far.0 c.loop-place.lines.lines old c.take_node.new.lines.lines c.loop-place-test.true so_far.1 got.0),
      got.1 ∙ c.loop-place.invariant.tail,
    )

pub loop-place-preserved : goal.loop-place-preserved
loop-place-preserved c =
    let items = length c.items.result.now in
    let read : ℕ → List ℕ → Option Node = λ i. node_of items in
    let got = c.in-Some.ensures in
    let so_far = c.loop-place.invariant.read in
    record {
      read = (
        so_far.0 ++ _ ∷ [],
        goes_on read c.args.count c.loop-place._place so_far.0 c.loop-place.lines.lines c.args.lines.now.lines c.take_node.new.lines.lines _ c.loop-place-test.true so_far.1 got.0,
      );
      tail = got.1 ∙ c.loop-place.invariant.tail;
    }

pub returns : goal.returns
unfolding nodes_at
returns c =
    let items = length c.items.result.now in
    let read : ℕ → List ℕ → Option Node = λ i. node_of items in
    let old = c.args.lines.now.lines in
    let so_far = c.loop-place.invariant.read in (
      so_far.0,
      subst (λ n. listed_at (λ i. node_of n) 0 c.args.count old ≡ Ok (so_far.0, c.loop-place.lines.lines)) (ap length c.items.ensures.items)
          (is_whole read c.args.count c.loop-place._place so_far.0 c.loop-place.lines.lines old c.loop-place-test.false so_far.1),
      c.loop-place.invariant.tail,
    )
