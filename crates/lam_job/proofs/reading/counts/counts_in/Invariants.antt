use Rattle.std.proofs.Common.{◌≡◌, ◌+◌, ◌<◌, ◌++◌, length, All}
use Rattle.toml.specs.View.{members_view, table_view}
use Rattle.lam_job.specs.JobOf.{counts_from, counts_of}
use Rattle.lam_job.specs.Ranges.{IsPlyNumber}
use Rattle.lam_job.proofs.Counted.{Passed}
use Rattle.lam_job.proofs.reading.counts.counts_in.Given as goal

abbrev pub invariant-loop-key : goal.invariant-loop-key
invariant-loop-key l = record {
  passed : Passed l.stock l.table.entries l.key-iterator (length l.counts.items);
  fault : counts_from l.stock (length l.counts.items + 1) (members_view l.key-iterator) ≡ counts_from l.stock 1 (table_view l.table);
  counts : l.counts.items ++ counts_of l.stock (members_view l.key-iterator) ≡ counts_of l.stock (table_view l.table);
  range : All (λ count. IsPlyNumber count.1) l.counts.items;
  known : All (λ count. count.0.0 < length l.stock) l.counts.items;
}
