use Rattle.std.proofs.Common.{◌≡◌}
use Rattle.std.specs.List.{list_all}
use Rattle.toml.specs.View.{members_view, table_view}
use Rattle.lam_job.specs.JobOf as spec
use Rattle.lam_job.proofs.reading.tables.has_only.Given as goal

abbrev pub invariant-loop-key : goal.invariant-loop-key
invariant-loop-key l =
    list_all (λ entry. spec.is_known l.keys l.tables entry.0) (spec.entries_of (members_view l.key-iterator))
    ≡ list_all (λ entry. spec.is_known l.keys l.tables entry.0) (spec.entries_of (table_view l.fn.table))
