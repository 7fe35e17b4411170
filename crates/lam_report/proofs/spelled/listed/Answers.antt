use Rattle.std.proofs.Common.{◌∙◌, ap, Bool, Some, None}
use Rattle.std.specs.Prelude.{if◌then◌else◌}
use Rattle.lam_report.proofs.NameLaws.{listed_range}
use Rattle.lam_report.proofs.spelled.listed.Goals as goal

pub returns-then-fill-clause-range : goal.returns-then-fill-clause-range
returns-then-fill-clause-range c =
    listed_range c.args.stock.now c.args.words.now c.fill.new.plies
    (c.fill.ensures ∙ ap (λ (b : Bool). if b then Some c.fill.new.plies else None) c.if-fill.true)
