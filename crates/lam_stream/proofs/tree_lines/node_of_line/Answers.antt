use Rattle.std.proofs.Common.{◌∙◌, arith}
use Rattle.lam_report.proofs.LineNodes.{node_read}
use Rattle.lam_stream.proofs.tree_lines.node_of_line.Goals as goal

pub returns : goal.returns
returns c =
    let few = c.ranges.items in
    c.ok.ensures.value ∙ node_read c.args.items c.args.line.now c.read_line.result (omega (arith, few)) c.read_line.ensures.found c.read_line.ensures.text c.read_line.ensures.only
