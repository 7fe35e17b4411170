use Rattle.std.proofs.Common.{◌∙◌, subst, sym, ◌≤◌, ◌^◌, arith}
use Rattle.lam_job.specs.Schedule.{cost_of}
use Rattle.lam_bounds.proofs.Walking.{sum-cost, low-cost, floor-is, floor-small, floor-so}
use Rattle.lam_bounds.proofs.running.cost_floor_at.Goals as goal

pub cost_with-requires-clause-cost : goal.cost_with-requires-clause-cost
cost_with-requires-clause-cost c = let h = sum-cost c.requires.partial c.requires.bounds c.requires.sums in omega (arith, h)

pub cost_with-requires-clause-each : goal.cost_with-requires-clause-each
cost_with-requires-clause-each c = let h = low-cost c.requires.partial c.requires.bounds c.requires.sums in omega (arith, h)

pub returns-clause-value : goal.returns-clause-value
returns-clause-value c = c.cost_with.ensures ∙ floor-is c.requires.partial c.requires.bounds c.requires.sums

pub returns-clause-so : goal.returns-clause-so
returns-clause-so c = λ listed completes.
    subst (λ n. n ≤ cost_of c.args.stock.now c.args.job.now listed) (sym (returns-clause-value c)) (floor-so c.requires.partial c.requires.bounds c.requires.sums listed completes)

pub returns-clause-small : goal.returns-clause-small
returns-clause-small c = subst (λ n. n ≤ 10 ^ 12) (sym (returns-clause-value c)) (floor-small c.requires.partial c.requires.bounds c.requires.sums)
