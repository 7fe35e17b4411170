use Rattle.std.proofs.Common.{◌≡◌, ◌∙◌, ◌+◌, ◌<◌, sym, ap, arith, length, length-append, Some, rules}
use Rattle.std.proofs.lemmas.List.Elements.{All-push}
use Rattle.lam_job.specs.declared.fault.JobKey.TheVariants as key
use Rattle.lam_job.specs.declared.fault.JobTable.TheVariants as at
use Rattle.lam_job.specs.JobOf.{fault_at, numbered}
use Rattle.lam_job.specs.Ranges.{IsPlyNumber}
use Rattle.lam_job.proofs.Counted.{passed-few, passed-more, counted-kept, counted-broken, counted-given, is_named-from}
use Rattle.lam_job.proofs.reading.counts.counts_in.Goals as goal

pub loop-key-preserved : goal.loop-key-preserved
loop-key-preserved c =
    let one_more : length c.push.new.self.items ≡ length c.loop-key.counts.items + 1 = rw c.in_ok-push-in-Ok.ensures.items (length-append c.loop-key.counts.items _) in
    record {
      passed = rw one_more (
          passed-more c.args.stock.now c.args.table.now.entries c.next.new.self (c.in-Some.key.now, c.in-Some.value.now) (length c.loop-key.counts.items)
          (rw c.in-Some.ensures.steps at c.loop-key.invariant.passed) (is_named-from (rw c.as_str.ensures.value at c.in-Ok.ensures.named))
          );
      fault = rw one_more (
          counted-kept c.args.stock.now c.in-Some.key.now c.in-Some.value.now c.next.new.self (length c.loop-key.counts.items + 1) _
          (rw c.as_str.ensures.value at c.in-Ok.ensures.takes.0) (rw c.in-Some.ensures.steps at c.loop-key.invariant.fault)
          );
      counts = rw c.in_ok-push-in-Ok.ensures.items (
          counted-given c.args.stock.now c.in-Some.key.now c.in-Some.value.now c.next.new.self c.in-Ok.count c.loop-key.counts.items _
          (rw c.as_str.ensures.value at c.in-Ok.ensures.takes.1) (rw c.in-Some.ensures.steps at c.loop-key.invariant.counts)
          );
      range = rw c.in_ok-push-in-Ok.ensures.items (All-push (λ count. IsPlyNumber count.1) c.loop-key.counts.items c.in-Ok.count c.loop-key.invariant.range c.in-Ok.ensures.range);
      known = rw c.in_ok-push-in-Ok.ensures.items (All-push (λ count. count.0.0 < length c.args.stock.now) c.loop-key.counts.items c.in-Ok.count c.loop-key.invariant.known c.in-Ok.ensures.known);
    }

pub overflow_cast-len : goal.overflow_cast-len
overflow_cast-len c =
    let few = passed-few c.args.stock.now c.args.table.now.entries c.loop-key.key-iterator (length c.loop-key.counts.items) c.loop-key.invariant.passed c.iter-key-items.ensures.ordered in
    grind (arith, few, c.len.ensures, c.has_few_items.ensures)

pub overflow_add-len : goal.overflow_add-len
overflow_add-len c =
    let few = passed-few c.args.stock.now c.args.table.now.entries c.loop-key.key-iterator (length c.loop-key.counts.items) c.loop-key.invariant.passed c.iter-key-items.ensures.ordered in
    grind (arith, few, c.len.ensures, c.has_few_items.ensures)

pub returns-in-Err-clause-tells : goal.returns-in-Err-clause-tells
returns-in-Err-clause-tells c =
    let number : c.len.result + 1 ≡ length c.loop-key.counts.items + 1 = first_of (omega arith, search rules) in
    counted-broken c.args.stock.now c.in-Some.key.now c.in-Some.value.now c.next.new.self (length c.loop-key.counts.items + 1) _ c.in-Err.cause
    (rw c.as_str.ensures.value at c.in-Err.ensures.takes) (rw c.in-Some.ensures.steps at c.loop-key.invariant.fault)
    ∙ ap Some (sym (c.fault_at.ensures ∙ ap (λ place. fault_at place key.Count c.in-Err.cause) (c.numbered-place.ensures ∙ ap (numbered at.Counts) number)))
