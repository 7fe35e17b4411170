use Rattle.std.proofs.Common.{◌∙◌, sym, refl, ap, Some, false}
use Rattle.toml.specs.View.{table_view, view}
use Rattle.lam_job.specs.Keys.{names}
use Rattle.lam_job.proofs.Rows.{at_key, may-absent, row-kept, row-broken}
use Rattle.lam_job.proofs.reading.values.items_if.Goals as goal

pub returns-in-None-clause-tells : goal.returns-in-None-clause-tells
returns-in-None-clause-tells c =
    let at = at_key c.value_at.ensures c.in-None.is in
    (may-absent c.args.place c.args.key (names c.args.stock.now c.args.sizes.now.least c.args.sizes.now.most) (table_view c.args.table.now) at, rw at refl)

pub returns-in-Ok-clause-tells : goal.returns-in-Ok-clause-tells
returns-in-Ok-clause-tells c =
    let at = at_key c.value_at.ensures c.in-Some.is in (
      row-kept c.args.place c.args.key (names c.args.stock.now c.args.sizes.now.least c.args.sizes.now.most) (table_view c.args.table.now) false (view c.in-Some.value.now)
          at c.in-Ok.ensures.takes.0,
      rw at (sym c.in-Ok.ensures.takes.1),
    )

pub returns-in-Err-clause-tells : goal.returns-in-Err-clause-tells
returns-in-Err-clause-tells c =
    row-broken c.args.place c.args.key (names c.args.stock.now c.args.sizes.now.least c.args.sizes.now.most) (table_view c.args.table.now) false (view c.in-Some.value.now)
    c.in-Err.cause (at_key c.value_at.ensures c.in-Some.is) c.in-Err.ensures.takes
    ∙ ap Some (sym c.fault_at.ensures)
