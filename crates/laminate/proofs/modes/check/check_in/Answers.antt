use Rattle.std.proofs.Common.{Err, subst, sym}
use Rattle.laminate.specs.declared.fault.Source.TheVariants as source
use Rattle.laminate.specs.declared.fault.Stop.{Stop}
use Rattle.laminate.specs.inside.Checked.{ChecksTo}
use Rattle.laminate.proofs.CheckSteps.{accepted_to, refused_to}
use Rattle.laminate.proofs.InputSteps.{length_within}
use Rattle.laminate.proofs.modes.check.check_in.Goals as goal

pub check_bytes-requires-clause-short : goal.check_bytes-requires-clause-short
check_bytes-requires-clause-short c = length_within source.Report c.args.bytes.now c.args.bytes.now c.requires.short

pub returns-in-Ok : goal.returns-in-Ok
returns-in-Ok c = accepted_to c.args.input.now c.args.bytes.now c.in-Ok.said c.line_of.result c.in-Ok.ensures.accepted c.line_of.ensures

pub returns-in-Err : goal.returns-in-Err
returns-in-Err c =
    subst (λ (s : Stop). ChecksTo c.args.input.now c.args.bytes.now (Err s)) (sym c.stop_of.ensures)
    (refused_to c.args.input.now c.args.bytes.now c.in-Err.refusal c.in-Err.ensures.refused c.in-Err.ensures.agrees)
