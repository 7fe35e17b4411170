use Rattle.std.proofs.Common.{sym, ◌∙◌, ◌-◌, ◌≤◌, arith}
use Rattle.lam_tsai.proofs.Halved.{start, upper, lower, found-value}
use Rattle.lam_tsai.proofs.ratio.halved.Goals as goal

pub loop-beyond-init : goal.loop-beyond-init
loop-beyond-init g c = start _

pub loop-beyond-preserved-then-meets : goal.loop-beyond-preserved-then-meets
loop-beyond-preserved-then-meets g c = upper c.loop-beyond.invariant c.loop-beyond-test.true (sym c.meets.ensures ∙ c.if-meets.true)

pub loop-beyond-preserved : goal.loop-beyond-preserved
loop-beyond-preserved g c = lower c.loop-beyond.invariant c.loop-beyond-test.true (sym c.meets.ensures ∙ c.if-meets.false)

pub returns-clause-value : goal.returns-clause-value
returns-clause-value g c = let narrow : c.loop-beyond.beyond - c.loop-beyond.met ≤ 1 = omega (arith, c.loop-beyond-test.false) in found-value c.loop-beyond.invariant narrow
