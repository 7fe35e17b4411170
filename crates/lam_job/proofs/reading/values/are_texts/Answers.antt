use Rattle.std.proofs.Common.{◌∙◌, sym}
use Rattle.toml.specs.View.{view}
use Rattle.lam_job.specs.JobOf.{is_text}
use Rattle.lam_job.proofs.Passing.{all-passed, all-failed}
use Rattle.lam_job.proofs.reading.values.are_texts.Goals as goal

pub returns-then-not-is_str : goal.returns-then-not-is_str
returns-then-not-is_str c = all-failed view is_text c.args.values.now c.loop-value.value-index c.value-item.result _ c.loop-value-test.true
    (rw (← c.value-item.is) (sym c.is_str.ensures ∙ c.if-not-is_str.true)) c.loop-value.invariant

pub loop-value-preserved : goal.loop-value-preserved
loop-value-preserved c = all-passed view is_text c.args.values.now c.loop-value.value-index c.value-item.result _ c.loop-value-test.true
    (rw (← c.value-item.is) (sym c.is_str.ensures ∙ c.if-not-is_str.false)) c.loop-value.invariant
