use Rattle.std.proofs.Common.{below_more}
use Rattle.lam_bounds.proofs.Walking.{sum-carried, never-short}
use Rattle.lam_bounds.proofs.closings.is_never_short.Goals as goal

pub is_short-requires : goal.is_short-requires
is_short-requires c = sum-carried c.requires.partial c.requires.bounds c.requires.sums c.loop-k.k c.loop-k-test.true

pub loop-k-preserved : goal.loop-k-preserved
loop-k-preserved c =
    below_more _ _ c.loop-k.invariant
    (never-short c.requires.partial c.requires.bounds c.requires.sums c.loop-k.k c.is_short.result c.loop-k-test.true c.is_short.ensures c.if-is_short.false)
