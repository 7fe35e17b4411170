use Rattle.std.proofs.Common.{◌≡◌, ◌∙◌, Some, None, Ok, sym, ap, arith}
use Rattle.std.proofs.lemmas.Option.{same_Some}
use Rattle.lam_tree.specs.inside.LineReading.{node_of}
use Rattle.lam_tree.proofs.NodeLaws.{line_takes, line_of_node_again}
use Rattle.lam_tree.proofs.read.read_line.Goals as goal

pub returns-in-Some-clause-found : goal.returns-in-Some-clause-found
returns-in-Some-clause-found c = (line_takes c.args.items c.args.line.now c.in-Some.node (sym c.node_in.ensures ∙ c.in-Some.is)).1

pub returns-in-Some-clause-text : goal.returns-in-Some-clause-text
returns-in-Some-clause-text c = (line_takes c.args.items c.args.line.now c.in-Some.node (sym c.node_in.ensures ∙ c.in-Some.is)).0

pub returns-in-Some-clause-only : goal.returns-in-Some-clause-only
returns-in-Some-clause-only c node is text =
    let few = c.ranges.items in
    let again = line_of_node_again c.args.items node (omega (arith, few)) is in
    ap (λ n. Ok n) (same_Some c.in-Some.node node (sym c.in-Some.is ∙ c.node_in.ensures ∙ ap (node_of c.args.items) text ∙ again))

pub returns-in-None-clause-only : goal.returns-in-None-clause-only
returns-in-None-clause-only c node is text =
    let few = c.ranges.items in
    let again = line_of_node_again c.args.items node (omega (arith, few)) is in
    let none : None ≡ Some node = sym c.in-None.is ∙ c.node_in.ensures ∙ ap (node_of c.args.items) text ∙ again in cc
