use Rattle.std.proofs.Common.{sym, ◌∙◌, arith}
use Rattle.lam_plate.specs.inside.Formulas as by
use Rattle.lam_plate.proofs.Halving.{halving-begin, halving-raised, halving-fallen, halving-end, lowered-fails}
use Rattle.lam_plate.proofs.printed.lowered.Goals as goal

pub loop-beyond-init : goal.loop-beyond-init
loop-beyond-init g c = halving-begin (by.meets_at g.N.Enclosure.numbers c.args.plate.now c.args.wave.now) c.args.most c.requires.most

pub loop-beyond-preserved-then-meets_at-2 : goal.loop-beyond-preserved-then-meets_at-2
loop-beyond-preserved-then-meets_at-2 g c =
    halving-raised (by.meets_at g.N.Enclosure.numbers c.args.plate.now c.args.wave.now) c.args.most c.loop-beyond.met c.loop-beyond.beyond c.loop-beyond.invariant
    (omega arith) (sym c.meets_at-in-loop-beyond.ensures ∙ c.if-meets_at-2.true)

pub loop-beyond-preserved : goal.loop-beyond-preserved
loop-beyond-preserved g c =
    halving-fallen (by.meets_at g.N.Enclosure.numbers c.args.plate.now c.args.wave.now) c.args.most c.loop-beyond.met c.loop-beyond.beyond c.loop-beyond.invariant
    (omega arith) (sym c.meets_at-in-loop-beyond.ensures ∙ c.if-meets_at-2.false)

pub returns-clause-value : goal.returns-clause-value
returns-clause-value g c =
    let test = by.meets_at g.N.Enclosure.numbers c.args.plate.now c.args.wave.now in
    sym (lowered-fails test c.args.most (sym c.meets_at.ensures ∙ c.if-meets_at.false) ∙ halving-end test c.args.most c.loop-beyond.met c.loop-beyond.beyond c.loop-beyond.invariant (omega arith))
