use Rattle.std.proofs.Common.{◌≡◌, List, ℕ, Ok, subst, sym}
use Rattle.laminate.specs.declared.fault.Source.TheVariants as source
use Rattle.laminate.specs.Input.{within_length}
use Rattle.laminate.specs.inside.Checked.{ChecksTo}
use Rattle.laminate.proofs.CheckSteps.{taken_checks, taken_stops}
use Rattle.laminate.proofs.modes.check.check_file.Goals as goal

pub check_report-requires-clause-short : goal.check_report-requires-clause-short
check_report-requires-clause-short g c =
    subst (λ (bytes : List ℕ). within_length source.Report bytes ≡ Ok bytes) (sym c.items.ensures) c.in-Ok.ensures.takes.1

pub returns-in-Err-clause-checks : goal.returns-in-Err-clause-checks
returns-in-Err-clause-checks g c =
    taken_stops c.args.input.now (g.F.Files.contents c.args.files.now c.args.report.now) (g.F.Files.faults c.args.files.now c.args.report.now)
    (g.F.Files.faults c.take.new.files c.args.report.now) c.in-Err.stop c.in-Err.ensures.takes

pub returns-in-Ok-clause-checks : goal.returns-in-Ok-clause-checks
returns-in-Ok-clause-checks g c =
    taken_checks c.args.input.now (g.F.Files.contents c.args.files.now c.args.report.now) (g.F.Files.faults c.args.files.now c.args.report.now)
    (g.F.Files.faults c.take.new.files c.args.report.now) c.in-Ok.bytes c.check_report.result c.in-Ok.ensures.takes
    (subst (λ (bytes : List ℕ). ChecksTo c.args.input.now bytes c.check_report.result) c.items.ensures c.check_report.ensures)
