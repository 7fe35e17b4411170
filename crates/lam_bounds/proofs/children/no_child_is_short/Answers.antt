use Rattle.std.proofs.Common.{below_more, ◌∙◌, ap, length, arith}
use Rattle.lam_tree.specs.ForceBalance.{IsShort}
use Rattle.lam_job.specs.Partial.{child}
use Rattle.lam_bounds.specs.inside.Computed.{capacity_value}
use Rattle.lam_bounds.proofs.ChildBounds.{child-never-short}
use Rattle.lam_bounds.proofs.Walking.{sum-few, all-tried, place-of}
use Rattle.lam_bounds.specs.inside.RunningSums.{places_of}
use Rattle.lam_bounds.proofs.children.no_child_is_short.Goals as goal

pub overflow_add-fixed : goal.overflow_add-fixed
overflow_add-fixed c = let h = sum-few c.requires.partial c.requires.bounds c.requires.sums c.loop-k.k c.loop-k-test.true in omega (arith, h, c.so_many-least.ensures.small)

pub is_short-requires : goal.is_short-requires
is_short-requires c = let h = sum-few c.requires.partial c.requires.bounds c.requires.sums c.loop-k.k c.loop-k-test.true in omega (arith, h, c.so_many-least.ensures.small)

pub loop-k-preserved : goal.loop-k-preserved
loop-k-preserved c =
    below_more _ _ c.loop-k.invariant
    (child-never-short c.requires.partial c.requires.bounds c.requires.sums c.requires.more c.loop-k.k c.is_short.result c.places-places.result c.so_many-least.result c.loop-k-test.true
    (c.places-places.ensures.value ∙ ap (λ l. places_of c.args.job.now c.partial.inside.n (length l)) c.items.ensures.items ∙ ap (λ q. places_of c.args.job.now q.n (length q.prefix)) c.partial.view_is) c.so_many-least.ensures.value
    c.is_short.ensures c.if-is_short.false)

pub returns : goal.returns
returns c = λ yes' item known n case at.
    all-tried (λ w. ¬ IsShort c.args.stock.now c.args.job.now (child c.args.partial.now item) case w (λ i. capacity_value i w))
    (λ k w tried. c.loop-k.invariant k (let few = place-of k w tried in omega (arith, few)) item known n case at w tried)
