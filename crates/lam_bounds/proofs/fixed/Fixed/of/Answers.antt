use Rattle.std.proofs.Common.{ap, ◌∙◌, sum_by, arith}
use Rattle.lam_job.specs.JobData.{JobData}
use Rattle.lam_job.specs.Partial.{fixed_plies}
use Rattle.lam_job.specs.Schedule.{wall_of}
use Rattle.lam_bounds.specs.inside.Computed.{capacity_value}
use Rattle.lam_bounds.proofs.Facts.{fixed-cost}
use Rattle.lam_bounds.proofs.RunningSteps.{cost-by-table, whole-is, each-more, known-few}
use Rattle.lam_bounds.proofs.TriedSteps.{length-more}
use Rattle.lam_bounds.proofs.Walking.{place-of}
use Rattle.lam_bounds.proofs.fixed.Fixed.of.Goals as goal

pub whole_sum-cost-requires-clause-liner : goal.whole_sum-cost-requires-clause-liner
whole_sum-cost-requires-clause-liner c = known-few c.args.stock.now 64 c.args.job.now.liner c.requires.bounds.catalogue.few c.requires.bounds.liner

pub whole_sum-cost-requires-clause-known : goal.whole_sum-cost-requires-clause-known
whole_sum-cost-requires-clause-known c = known-few c.args.stock.now 64 c.args.partial.now.prefix c.requires.bounds.catalogue.few c.requires.partial.known

pub overflow_cast-result : goal.overflow_cast-result
overflow_cast-result c =
    let liner = c.requires.bounds.valid.liner in
    let same = cost-by-table c.args.stock.now c.args.job.now c.args.partial.now c.requires.bounds.liner c.requires.partial.known c.args.bounds.now.costs c.requires.bounds.costs in
    let few = fixed-cost c.args.stock.now c.args.job.now c.args.partial.now c.requires.partial c.requires.bounds.catalogue c.requires.bounds.liner (omega (arith, liner)) in
    omega (arith, c.whole_sum-cost.ensures.value, same, few)

pub loop-k-preserved : goal.loop-k-preserved
loop-k-preserved c =
    let i = c.loop-k.invariant in
    let k = c.loop-k.k in
    record {
      long = length-more c.loop-k.carried k _ 12 i.long;
      each = each-more (λ w. sum_by (λ i. capacity_value i w) (wall_of c.args.stock.now c.args.job.now (fixed_plies c.args.job.now c.args.partial.now))) c.loop-k.carried k c.whole_sum.result
          (omega (arith, i.long, c.loop-k-test.true))
          (λ w tried. whole-is c.args.stock.now c.args.job.now c.args.partial.now c.requires.bounds.liner c.requires.partial.known c.requires.bounds k c.whole_sum.result c.job.inside.liner_in_wall w c.loop-k-test.true tried
          (ap (λ (j : JobData). j.liner_in_wall) c.job.view_is) c.whole_sum.ensures.value)
          i.each;
    }

pub returns : goal.returns
returns c = record {
  cost = c.whole_sum-cost.ensures.value
      ∙ cost-by-table c.args.stock.now c.args.job.now c.args.partial.now c.requires.bounds.liner c.requires.partial.known c.args.bounds.now.costs c.requires.bounds.costs;
  carried = λ k w tried. c.loop-k.invariant.each k w (let few = place-of k w tried in omega (arith, few)) tried;
  long = c.loop-k.invariant.long;
  places = c.open_places.ensures.value;
}
