use Rattle.std.proofs.Common.{ap, length, arith}
use Rattle.std.proofs.lemmas.Option.{slice_get_within}
use Rattle.lam_tree.specs.ForceBalance.{IsShort}
use Rattle.lam_bounds.specs.inside.Computed.{capacity_value}
use Rattle.lam_bounds.proofs.Walking.{all-tried, weight-member}
use Rattle.lam_bounds.proofs.closings.first_short.Goals as goal

pub returns-then-is_never_short-clause-none : goal.returns-then-is_never_short-clause-none
returns-then-is_never_short-clause-none c = λ none n case at.
    all-tried (λ w. ¬ IsShort c.args.stock.now c.args.job.now c.args.partial.now case w (λ i. capacity_value i w)) (λ k w tried. c.is_never_short.ensures c.if-is_never_short.true n case at k w tried)

pub returns-in-Some-clause-some : goal.returns-in-Some-clause-some
returns-in-Some-clause-some c = c.in-Some.ensures.some _ (weight-member c.tried_weights-weights.result c.in-Some.k c.index-weights-k.result c.tried_weights-weights.ensures c.in-Some.ensures.weight)

pub returns-clause-none : goal.returns-clause-none
returns-clause-none c = λ none n case at.
    let within = slice_get_within c.args.job.now.cases n case at in
    all-tried (λ w. ¬ IsShort c.args.stock.now c.args.job.now c.args.partial.now case w (λ i. capacity_value i w)) (λ k w tried. c.loop-case.invariant n (omega (arith, within, ap length c.items-case-end.ensures, ap (λ j. length j.cases) c.job.view_is)) case at k w tried)

pub returns-in-Some-clause-tried : goal.returns-in-Some-clause-tried
returns-in-Some-clause-tried c =
    (c.in-Some.k, weight-member c.tried_weights-weights.result c.in-Some.k c.index-weights-k.result c.tried_weights-weights.ensures c.in-Some.ensures.weight)
