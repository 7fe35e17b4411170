use Rattle.std.proofs.Common.{◌∙◌, sym, ap, Some, [], ◌∷◌, true}
use Rattle.toml.specs.Data.{as_str}
use Rattle.toml.specs.View.{table_view, view}
use Rattle.lam_job.specs.declared.fault.JobCause.TheVariants as cause
use Rattle.lam_job.specs.Keys.{one_of}
use Rattle.lam_job.proofs.Rows.{at_key, must-absent, row-kept, row-broken, neither, one_of_two, is_first}
use Rattle.lam_job.proofs.reading.values.is_first.Goals as goal

pub returns-in-None : goal.returns-in-None
returns-in-None c =
    must-absent c.args.place c.args.key (one_of (c.args.first.now ∷ c.args.second.now ∷ [])) (table_view c.args.table.now) (at_key c.value_at.ensures c.in-None.is)
    ∙ ap Some (sym c.fault_at.ensures)

pub returns-in-Some-first_of_two : goal.returns-in-Some-first_of_two
returns-in-Some-first_of_two c =
    let at = at_key c.value_at.ensures c.in-Some.is in
    let found = sym c.first_of_two.ensures ∙ c.in-Some-first_of_two.is in (
      row-kept c.args.place c.args.key (one_of (c.args.first.now ∷ c.args.second.now ∷ [])) (table_view c.args.table.now) true (view c.in-Some.value.now) at (one_of_two c.args.first.now c.args.second.now (as_str (view c.in-Some.value.now)) found),
      rw at (is_first c.args.first.now c.args.second.now (as_str (view c.in-Some.value.now)) found),
    )

pub returns-in-None-first_of_two : goal.returns-in-None-first_of_two
returns-in-None-first_of_two c =
    row-broken c.args.place c.args.key (one_of (c.args.first.now ∷ c.args.second.now ∷ [])) (table_view c.args.table.now) true (view c.in-Some.value.now) cause.Kind
    (at_key c.value_at.ensures c.in-Some.is) (neither c.args.first.now c.args.second.now (as_str (view c.in-Some.value.now)) (sym c.first_of_two.ensures ∙ c.in-None-first_of_two.is))
    ∙ ap Some (sym c.fault_at-in-None-first_of_two.ensures)
