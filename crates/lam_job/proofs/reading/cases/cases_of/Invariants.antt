use Rattle.std.proofs.Common.{◌≡◌, ◌+◌, ◌++◌, map, drop, length, filter_map, option_map, All}
use Rattle.toml.specs.Data.{as_table}
use Rattle.toml.specs.View.{view}
use Rattle.lam_job.specs.declared.fault.JobTable.TheVariants as at
use Rattle.lam_job.specs.JobOf.{case_of, case_fault, tables_from}
use Rattle.lam_job.specs.Ranges.{IsCase}
use Rattle.lam_job.proofs.reading.cases.cases_of.Given as goal

abbrev pub invariant-loop-value : goal.invariant-loop-value
invariant-loop-value l = record {
  number : length l.cases.items ≡ l.value-index;
  fault : tables_from at.Case case_fault (l.value-index + 1) (map view (drop l.value-index l.tables)) ≡ tables_from at.Case case_fault 1 (map view l.tables);
  cases : l.cases.items ++ filter_map (λ t. option_map case_of (as_table t)) (map view (drop l.value-index l.tables))
      ≡ filter_map (λ t. option_map case_of (as_table t)) (map view l.tables);
  ranges : All IsCase l.cases.items;
}
