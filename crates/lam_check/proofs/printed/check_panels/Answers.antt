use Rattle.std.proofs.Common.{◌≡◌, sym, ◌∙◌, ◌+◌, true, false, Some, None, subst}
use Rattle.std.proofs.lemmas.List.{drop_all}
use Rattle.lam_tree.specs.Findings.{WrongRatio}
use Rattle.lam_check.proofs.Printings.{panel-passes, panel-fails, no-panels, Panels}
use Rattle.lam_check.proofs.printed.check_panels.Goals as goal

pub returns-then-not-is_printed-clause-fault : goal.returns-then-not-is_printed-clause-fault
returns-then-not-is_printed-clause-fault c = λ stock job listed is.
    c.loop-i.invariant stock job listed is (Some (record { line = c.args.first + c.loop-i.i; cause = WrongRatio }))
    (panel-fails stock job listed c.args.room.now is c.args.panels.now c.args.first c.loop-i.i c.loop-i-test.true
    (λ same. (let n : true ≡ false = sym (c.is_printed.ensures.1 (same ∙ sym c.panel.ensures.value)) ∙ c.if-not-is_printed.true in cc)))

pub loop-i-preserved : goal.loop-i-preserved
loop-i-preserved c = λ stock job listed is found later.
    c.loop-i.invariant stock job listed is found
    (panel-passes stock job listed c.args.room.now is c.args.panels.now c.args.first c.loop-i.i c.loop-i-test.true
    (c.is_printed.ensures.0 c.if-not-is_printed.false ∙ c.panel.ensures.value) found later)

pub returns-clause-none : goal.returns-clause-none
returns-clause-none c = λ stock job listed is.
    c.loop-i.invariant stock job listed is None
    (subst (λ l. Panels stock job listed c.args.room.now is (c.args.first + c.loop-i.i) c.loop-i.i l None)
    (sym (drop_all c.loop-i.i c.args.panels.now c.loop-i-test.false))
    (no-panels stock job listed c.args.room.now is (c.args.first + c.loop-i.i) c.loop-i.i))
