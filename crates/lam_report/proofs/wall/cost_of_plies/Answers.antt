use Rattle.std.proofs.Common.{◌∙◌, ◌+◌, ap, sym, subst, List, arith}
use Rattle.lam_stock.specs.Stock.{IsKnown}
use Rattle.lam_stock.specs.declared.item.ItemNo.{ItemNo}
use Rattle.lam_report.proofs.WriteLaws.{cost-more}
use Rattle.lam_report.proofs.wall.cost_of_plies.Goals as goal

pub loop-ply-preserved : goal.loop-ply-preserved
loop-ply-preserved c =
    let plies = c.items-ply-items.result.now in
    let zero : ItemNo = record { 0 = 0 } in
    let known = subst (λ (ps : List ItemNo). IsKnown c.args.stock.now ps) (sym c.items-ply-items.ensures.items) c.requires in
    let cost = c.cost_of_ply-total.result in
    let small = c.loop-ply.invariant.small in
    let own = c.cost_of_ply-total.ensures.small in
    record {
      total = ap (λ n. n + cost) c.loop-ply.invariant.total
          ∙ sym (cost-more c.args.stock.now plies c.loop-ply.ply-index zero cost c.loop-ply-test.true known c.cost_of_ply-total.ensures.value);
      small = omega (arith, small, own);
    }
