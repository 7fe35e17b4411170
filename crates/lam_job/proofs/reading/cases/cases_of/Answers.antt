use Rattle.std.proofs.Common.{◌≡◌, ◌∙◌, ◌+◌, ap, option_map, arith, length-append, rules}
use Rattle.std.proofs.lemmas.List.Elements.{All-push}
use Rattle.toml.specs.Data.{as_table}
use Rattle.toml.specs.View.{view}
use Rattle.lam_job.specs.declared.fault.JobTable.TheVariants as at
use Rattle.lam_job.specs.JobOf.{case_of, case_fault, in_table, numbered}
use Rattle.lam_job.specs.Ranges.{IsCase}
use Rattle.lam_job.proofs.Passing.{from-passed, given-passed}
use Rattle.lam_job.proofs.reading.cases.cases_of.Goals as goal

pub loop-value-preserved : goal.loop-value-preserved
loop-value-preserved c =
    let place : c.numbered-place.result ≡ numbered at.Case (c.loop-value.value-index + 1) = c.numbered-place.ensures ∙ ap (numbered at.Case) (first_of (omega arith, search rules)) in
    record {
      number = rw c.in_ok-push.ensures.items (length-append c.loop-value.cases.items _ ∙ ap (λ n. n + 1) c.loop-value.invariant.number);
      fault = from-passed view (λ n d. in_table (numbered at.Case n) (case_fault (numbered at.Case n)) (as_table d)) c.args.tables.now c.loop-value.value-index (c.loop-value.value-index + 1)
          c.value-item.result _ c.loop-value-test.true (rw (← c.value-item.is) (rw place at c.in_ok-case.ensures.takes.0)) c.loop-value.invariant.fault;
      cases = rw c.in_ok-push.ensures.items (given-passed view (λ t. option_map case_of (as_table t)) c.args.tables.now c.loop-value.value-index c.value-item.result c.in_ok-case.case
          c.loop-value.cases.items _ c.loop-value-test.true (rw (← c.value-item.is) c.in_ok-case.ensures.takes.1) c.loop-value.invariant.cases);
      ranges = rw c.in_ok-push.ensures.items (All-push IsCase c.loop-value.cases.items c.in_ok-case.case c.loop-value.invariant.ranges c.in_ok-case.ensures.range);
    }
