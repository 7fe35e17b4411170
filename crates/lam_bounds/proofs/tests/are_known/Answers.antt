use Rattle.std.proofs.Common.{ap, subst, ◌<◌, get_or, length, All, arith}
use Rattle.std.proofs.lemmas.List.{take_all}
use Rattle.std.proofs.lemmas.List.Elements.{All-more}
use Rattle.lam_stock.specs.declared.item.ItemNo.{ItemNo}
use Rattle.lam_bounds.proofs.tests.are_known.Goals as goal

pub loop-ply-preserved : goal.loop-ply-preserved
loop-ply-preserved c =
    let stock = c.args.stock.now in
    let plies = c.args.plies.now in
    let k = c.loop-ply.ply-index in
    let same = ap length c.items.ensures.items in
    let known : (get_or plies k (record { 0 = 0 })).0 < length stock = omega (arith, same) in
    All-more (λ (ply : ItemNo). ply.0 < length stock) plies k (record { 0 = 0 }) c.loop-ply-test.true c.loop-ply.invariant known

pub returns : goal.returns
returns c = λ t.
    subst (All (λ (ply : ItemNo). ply.0 < length c.args.stock.now)) (take_all c.loop-ply.ply-index c.args.plies.now c.loop-ply-test.false) c.loop-ply.invariant
