use Rattle.std.proofs.Common.{◌∙◌, sym}
use Rattle.lam_report.proofs.CutLaws.{length-whole_lines}
use Rattle.lam_report.proofs.lines.count_lines.Goals as goal

pub returns-clause-value : goal.returns-clause-value
returns-clause-value c = c.count_ends.ensures.value ∙ sym (length-whole_lines c.args.bytes.now)
