use Rattle.std.proofs.Common.{sym, ◌∙◌, ap, ◌+◌, arith}
use Rattle.lam_check.proofs.CostSums.{cost-more}
use Rattle.lam_check.proofs.costs.plies_cost.Goals as goal

pub loop-ply-preserved : goal.loop-ply-preserved
loop-ply-preserved c =
    let k = c.loop-ply.ply-index in
    let more = cost-more c.args.stock.now c.args.plies.now k (record { 0 = 0 }) c.item_cost-sum.result c.loop-ply-test.true c.requires.known c.item_cost-sum.ensures.value in
    let so_far = c.loop-ply.invariant.so_far in
    let small = c.loop-ply.invariant.small in
    let own = c.item_cost-sum.ensures.small in
    record {
      so_far = ap (λ n. n + c.item_cost-sum.result) so_far ∙ sym more;
      small = omega (arith, small, own);
    }
