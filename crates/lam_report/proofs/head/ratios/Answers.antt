use Rattle.std.proofs.Common.{◌≡◌, ◌∙◌, ◌+◌, ap, subst, sym, length, ℕ, List, Ok, Err}
use Rattle.std.specs.Prelude.{◌*◌, ◌/◌, ◌%◌, Option}
use Rattle.lam_job.specs.JobData.{JobData}
use Rattle.lam_report.specs.inside.HeadReading.{ratio_in}
use Rattle.lam_report.specs.inside.Reading.{listed_at}
use Rattle.lam_report.specs.inside.ReportReading.{ratios_at}
use Rattle.lam_report.proofs.ListLoops.{SoFar, goes_on, stops, is_whole}
use Rattle.lam_report.proofs.head.ratios.Goals as goal

pub returns-in_default : goal.returns-in_default
unfolding ratios_at
returns-in_default c =
    let plies = c.args.plies in
    let read : ℕ → List ℕ → Option ℕ = λ i. ratio_in (i / plies) (i % plies) in
    let count = length c.items.result.now * plies in
    let same = ap (λ n. n * plies) (ap length (c.items.ensures ∙ ap (λ (j : JobData). j.cases) c.job.view_is)) in
    let got = c.in_default.ensures in
    let old = c.args.lines.now.lines in (
      subst (λ n. listed_at read 0 n old ≡ Err c.take_ratio.new.lines.lines) same
          (stops read count c.loop-i.i c.loop-i.ratios c.loop-i.lines.lines old c.take_ratio.new.lines.lines c.loop-i-test.true c.loop-i.invariant.read got.0),
      got.1 ∙ c.loop-i.invariant.tail,
    )

pub loop-i-preserved : goal.loop-i-preserved
loop-i-preserved c =
    let plies = c.args.plies in
    let read : ℕ → List ℕ → Option ℕ = λ i. ratio_in (i / plies) (i % plies) in
    let count = length c.items.result.now * plies in
    let got = c.in-Some.ensures in
    record {
      read = subst (λ (f : List ℕ). SoFar read count (c.loop-i.i + 1) f c.take_ratio.new.lines.lines c.args.lines.now.lines) (sym c.in-Ok.ensures.pushed)
          (goes_on read count c.loop-i.i c.loop-i.ratios c.loop-i.lines.lines c.args.lines.now.lines c.take_ratio.new.lines.lines c.in-Some.ratio c.loop-i-test.true c.loop-i.invariant.read got.0);
      tail = got.1 ∙ c.loop-i.invariant.tail;
    }

pub returns : goal.returns
unfolding ratios_at
returns c =
    let plies = c.args.plies in
    let read : ℕ → List ℕ → Option ℕ = λ i. ratio_in (i / plies) (i % plies) in
    let count = length c.items.result.now * plies in
    let same = ap (λ n. n * plies) (ap length (c.items.ensures ∙ ap (λ (j : JobData). j.cases) c.job.view_is)) in
    let old = c.args.lines.now.lines in (
      subst (λ n. listed_at read 0 n old ≡ Ok (c.loop-i.ratios, c.loop-i.lines.lines)) same
          (is_whole read count c.loop-i.i c.loop-i.ratios c.loop-i.lines.lines old c.loop-i-test.false c.loop-i.invariant.read),
      c.loop-i.invariant.tail,
    )
