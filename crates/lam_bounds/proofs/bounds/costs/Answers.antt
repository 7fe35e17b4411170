use Rattle.std.proofs.Common.{refl, ap, subst, arith, length}
use Rattle.lam_bounds.specs.inside.Tables.{HasValues}
use Rattle.lam_bounds.proofs.CarrierSteps.{table-more, table-all, long-more}
use Rattle.lam_bounds.proofs.bounds.costs.Goals as goal

pub loop-k-preserved : goal.loop-k-preserved
loop-k-preserved c =
    let items = c.items-items.result.now in
    record {
      long = long-more c.loop-k.costs c.loop-k.k _ 64 c.loop-k.invariant.long;
      each = table-more (λ i. i.cost) items c.loop-k.costs c.loop-k.k _ c.index-items-k.result c.loop-k.invariant.each (omega (arith, ap length c.items-items.ensures.items)) refl;
    }

pub returns : goal.returns
returns c =
    let items = c.items-items.result.now in
    subst (λ l. HasValues (λ i. i.cost) l c.loop-k.costs) c.items-items.ensures.items
    (table-all (λ i. i.cost) items c.loop-k.costs c.loop-k.k (omega arith) c.loop-k.invariant.each)
