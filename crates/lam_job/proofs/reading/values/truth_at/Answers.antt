use Rattle.std.proofs.Common.{◌∙◌, sym, refl, ap, Some, false}
use Rattle.toml.specs.View.{table_view, view}
use Rattle.lam_job.specs.declared.fault.JobCause.TheVariants as cause
use Rattle.lam_job.specs.Keys.{truth}
use Rattle.lam_job.proofs.Rows.{at_key, may-absent, row-kept, row-broken}
use Rattle.lam_job.proofs.reading.values.truth_at.Goals as goal

pub returns-in-None : goal.returns-in-None
returns-in-None c =
    let at = at_key c.value_at.ensures c.in-None.is in
    (may-absent c.args.place c.args.key truth (table_view c.args.table.now) at, rw at refl)

pub returns-in-None-as_bool : goal.returns-in-None-as_bool
returns-in-None-as_bool c =
    row-broken c.args.place c.args.key truth (table_view c.args.table.now) false (view c.in-Some.value.now) cause.Kind
    (at_key c.value_at.ensures c.in-Some.is) (rw (← c.as_bool.ensures, c.in-None-as_bool.is) refl)
    ∙ ap Some (sym c.fault_at.ensures)

pub returns-in-Some-as_bool : goal.returns-in-Some-as_bool
returns-in-Some-as_bool c =
    let at = at_key c.value_at.ensures c.in-Some.is in (
      row-kept c.args.place c.args.key truth (table_view c.args.table.now) false (view c.in-Some.value.now) at (rw (← c.as_bool.ensures, c.in-Some-as_bool.is) refl),
      rw (at, ← c.as_bool.ensures, c.in-Some-as_bool.is) refl,
    )
