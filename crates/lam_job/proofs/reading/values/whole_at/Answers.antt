use Rattle.std.proofs.Common.{rules, refl, ◌∙◌, sym, w64, true, ap, Some}
use Rattle.std.proofs.lemmas.Int.{to_z-of_z}
use Rattle.lam_job.specs.Keys.{whole}
use Rattle.toml.specs.View.{table_view, view}
use Rattle.lam_job.proofs.Rows.{at_key, must-absent, row-kept, row-broken}
use Rattle.lam_job.proofs.reading.values.whole_at.Goals as goal

pub returns-in-None-clause-tells : goal.returns-in-None-clause-tells
returns-in-None-clause-tells c =
    must-absent c.args.place c.args.key (whole c.args.range.now.least c.args.range.now.greatest) (table_view c.args.table.now) (at_key c.value_at.ensures c.in-None.is)
    ∙ ap Some (sym c.fault_at.ensures)

pub returns-in-Ok-clause-tells : goal.returns-in-Ok-clause-tells
returns-in-Ok-clause-tells c =
    let at = at_key c.value_at.ensures c.in-Some.is in (
      row-kept c.args.place c.args.key (whole c.args.range.now.least c.args.range.now.greatest) (table_view c.args.table.now) true (view c.in-Some.value.now) at c.in-Ok.ensures.takes.0,
      rw (to_z-of_z w64 c.in-Ok.number (search rules), at, c.in-Ok.ensures.takes.1) refl,
    )

pub returns-in-Err-clause-tells : goal.returns-in-Err-clause-tells
returns-in-Err-clause-tells c =
    row-broken c.args.place c.args.key (whole c.args.range.now.least c.args.range.now.greatest) (table_view c.args.table.now) true (view c.in-Some.value.now) c.in-Err.cause
    (at_key c.value_at.ensures c.in-Some.is) c.in-Err.ensures.takes
    ∙ ap Some (sym c.fault_at-in-Err.ensures)
