use Rattle.std.proofs.Common.{◌≡◌, sym, ◌∙◌, true, false, Some, None, ◌+◌, subst}
use Rattle.std.proofs.lemmas.List.{drop_all}
use Rattle.lam_tree.specs.Findings.{WrongRatio}
use Rattle.lam_check.proofs.Printings.{ratio-passes, ratio-fails, no-ratios, Ratios}
use Rattle.lam_check.proofs.printed.check_ratios.Goals as goal

pub returns-then-not-is_ratio-clause-fault : goal.returns-then-not-is_ratio-clause-fault
returns-then-not-is_ratio-clause-fault c = λ stock job listed is.
    c.loop-i.invariant stock job listed is (Some (record { line = 6 + c.loop-i.i; cause = WrongRatio }))
    (ratio-fails stock job listed c.args.room.now is c.args.plies c.args.ratios.now 6 c.loop-i.i c.loop-i-test.true
    (λ same. (let n : true ≡ false = sym (c.is_ratio.ensures.1 same) ∙ c.if-not-is_ratio.true in cc)))

pub loop-i-preserved : goal.loop-i-preserved
loop-i-preserved c = λ stock job listed is found later.
    c.loop-i.invariant stock job listed is found
    (ratio-passes stock job listed c.args.room.now is c.args.plies c.args.ratios.now 6 c.loop-i.i c.loop-i-test.true
    (c.is_ratio.ensures.0 c.if-not-is_ratio.false) found later)

pub returns-clause-none : goal.returns-clause-none
returns-clause-none c = λ stock job listed is.
    c.loop-i.invariant stock job listed is None
    (subst (λ l. Ratios stock job listed c.args.room.now is c.args.plies (6 + c.loop-i.i) c.loop-i.i l None)
    (sym (drop_all c.loop-i.i c.args.ratios.now c.loop-i-test.false))
    (no-ratios stock job listed c.args.room.now is c.args.plies (6 + c.loop-i.i) c.loop-i.i))
