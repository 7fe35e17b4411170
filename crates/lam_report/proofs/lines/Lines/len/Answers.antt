use Rattle.std.proofs.Common.{◌∙◌, ap, length}
use Rattle.lam_report.specs.inside.Left.{bytes_of}
use Rattle.lam_report.proofs.CutLaws.{text_again}
use Rattle.lam_report.proofs.lines.Lines.len.Goals as goal

pub returns : goal.returns
returns c = ap length (text_again c.self.inside.rest.now) ∙ ap (λ l. length (bytes_of l)) c.self.view_is
