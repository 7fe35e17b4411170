use Rattle.std.proofs.Common.{◌∙◌, sym, true, false}
use Rattle.toml.specs.View.{table_view}
use Rattle.lam_job.proofs.CaseRows.{kind-broken, kind-kept}
use Rattle.lam_job.proofs.reading.cases.case_in.Goals as goal

pub returns-in-Ok-true-clause-tells : goal.returns-in-Ok-true-clause-tells
returns-in-Ok-true-clause-tells c =
    kind-kept c.args.place (table_view c.args.table.now) true c.cylinder_in.result c.in-Ok-true.ensures.0 (sym c.in-Ok-true.ensures.1 ∙ c.in-Ok-true.field-0-test)
    c.cylinder_in.ensures.tells

pub returns-in-Ok-false-clause-tells : goal.returns-in-Ok-false-clause-tells
returns-in-Ok-false-clause-tells c =
    kind-kept c.args.place (table_view c.args.table.now) false c.resultants_in.result c.in-Ok-false.ensures.0 (sym c.in-Ok-false.ensures.1 ∙ c.in-Ok-false.field-0-test)
    c.resultants_in.ensures.tells

pub returns-in-Err-clause-tells : goal.returns-in-Err-clause-tells
returns-in-Err-clause-tells c = kind-broken c.args.place (table_view c.args.table.now) c.in-Err.fault c.in-Err.ensures
