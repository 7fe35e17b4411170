use Rattle.std.proofs.Common.{◌∙◌, ap, length, decimal, ◌+◌, ◌≤◌, arith}
use Rattle.std.proofs.lemmas.Fmt.{length-decimal-le}
use Rattle.lam_tree.proofs.Adding.{added-one}
use Rattle.lam_tree.proofs.line.Line.whole.Goals as goal

pub add-requires : goal.add-requires
add-requires c =
    let e = ap length (c.as_bytes.ensures.value ∙ c.format.ensures.text) in
    let fits = c.ranges.n in
    let short = length-decimal-le 20 c.args.n (omega arith) (omega (arith, fits)) (omega (arith, fits)) in
    let room = c.requires in
    omega (arith, e, short, room)

pub returns : goal.returns
returns c =
    let text = c.as_bytes.ensures.value ∙ c.format.ensures.text in
    let e = ap length text in
    let fits = c.ranges.n in
    let short = length-decimal-le 20 c.args.n (omega arith) (omega (arith, fits)) (omega (arith, fits)) in
    added-one c.as_bytes.result.now (decimal c.args.n) (length c.as_bytes.result.now + 1) 21 text (omega (arith, e, short)) c.add.ensures
