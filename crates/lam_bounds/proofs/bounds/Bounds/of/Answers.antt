use Rattle.std.proofs.Common.{sym, subst, arith}
use Rattle.std.proofs.lemmas.Option.{slice_get_within}
use Rattle.lam_stock.specs.Stock.{IsStock}
use Rattle.lam_job.specs.Ranges.{IsJob}
use Rattle.lam_bounds.specs.inside.Tables.{IsTried}
use Rattle.lam_bounds.proofs.TriedSteps.{length-more, tried-more, tried-new}
use Rattle.lam_bounds.proofs.bounds.Bounds.of.Goals as goal

pub loop-k-preserved : goal.loop-k-preserved
loop-k-preserved c =
    let k = c.loop-k.k in
    let new = tried-new c.args.stock.now c.args.job.now c.tried_weights-weights.result k c.index-weights-k.result c.of.result c.tried_weights-weights.ensures c.index-weights-k.is
    (subst (λ w. IsTried c.args.stock.now c.args.job.now w c.of.result) (sym c.index-weights-k.is) c.of.ensures) in
    record {
      long = length-more c.loop-k.tried k c.of.result 12 c.loop-k.invariant.long;
      each = tried-more c.args.stock.now c.args.job.now c.loop-k.tried k c.of.result c.loop-k.invariant.each new;
    }

pub returns : goal.returns
returns c = record {
  catalogue = subst (IsStock c.args.stock.now) c.scale-scale.ensures.value c.scale-scale.ensures.stock;
  valid = subst IsJob c.job.view_is c.job.invariant;
  liner = c.requires;
  long = c.loop-k.invariant.long;
  each = λ k w t tried at. c.loop-k.invariant.each k w t (omega (arith, slice_get_within c.loop-k.tried k t at)) tried at;
  costs = c.costs.ensures;
  cheapest = c.cheapest.ensures;
  dearest = c.dearest.ensures.greatest;
  few = c.dearest.ensures.few;
}
