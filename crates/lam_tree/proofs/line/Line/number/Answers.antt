use Rattle.std.proofs.Common.{◌+◌, ◌∙◌, ap, length, decimal, arith}
use Rattle.lam_tree.proofs.Adding.{added-one, short_number}
use Rattle.lam_tree.proofs.line.Line.number.Goals as goal

pub add-requires : goal.add-requires
add-requires c =
    let e = ap length (c.as_bytes.ensures.value ∙ c.format.ensures.text) in
    let short = short_number c.args.n c.requires.few in
    let room = c.requires.room in
    omega (arith, e, short, room)

pub returns : goal.returns
returns c =
    let text = c.as_bytes.ensures.value ∙ c.format.ensures.text in
    let e = ap length text in
    let short = short_number c.args.n c.requires.few in
    added-one c.as_bytes.result.now (decimal c.args.n) (length c.as_bytes.result.now + 1) 3 text (omega (arith, e, short)) c.add.ensures
