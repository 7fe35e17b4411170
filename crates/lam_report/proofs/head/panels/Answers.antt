use Rattle.std.proofs.Common.{◌≡◌, ◌∙◌, ◌+◌, ap, subst, sym, length, ℕ, List, Ok, Err}
use Rattle.lam_job.specs.JobData.{JobData}
use Rattle.lam_report.specs.inside.HeadReading.{panel_in}
use Rattle.lam_report.specs.inside.Reading.{listed_at}
use Rattle.lam_report.specs.inside.ReportReading.{panels_at}
use Rattle.lam_report.proofs.ListLoops.{SoFar, goes_on, stops, is_whole}
use Rattle.lam_report.proofs.head.panels.Goals as goal

pub returns-in_default : goal.returns-in_default
unfolding panels_at
returns-in_default c =
    let count = length c.items-k-end.result.now in
    let same = ap length (c.items-k-end.ensures ∙ ap (λ (j : JobData). j.panels) c.job.view_is) in
    let got = c.in_default.ensures in
    let old = c.args.lines.now.lines in (
      subst (λ n. listed_at panel_in 0 n old ≡ Err c.take_panel.new.lines.lines) same
          (stops panel_in count c.loop-k.k c.loop-k.panels c.loop-k.lines.lines old c.take_panel.new.lines.lines c.loop-k-test.true c.loop-k.invariant.read got.0),
      got.1 ∙ c.loop-k.invariant.tail,
    )

pub loop-k-preserved : goal.loop-k-preserved
loop-k-preserved c =
    let count = length c.items-k-end.result.now in
    let got = c.in-Some.ensures in
    record {
      read = subst (λ (f : List ℕ). SoFar panel_in count (c.loop-k.k + 1) f c.take_panel.new.lines.lines c.args.lines.now.lines) (sym c.in-Ok.ensures.pushed)
          (goes_on panel_in count c.loop-k.k c.loop-k.panels c.loop-k.lines.lines c.args.lines.now.lines c.take_panel.new.lines.lines c.in-Some.ratio c.loop-k-test.true c.loop-k.invariant.read got.0);
      tail = got.1 ∙ c.loop-k.invariant.tail;
    }

pub returns : goal.returns
unfolding panels_at
returns c =
    let count = length c.items-k-end.result.now in
    let same = ap length (c.items-k-end.ensures ∙ ap (λ (j : JobData). j.panels) c.job.view_is) in
    let old = c.args.lines.now.lines in (
      subst (λ n. listed_at panel_in 0 n old ≡ Ok (c.loop-k.panels, c.loop-k.lines.lines)) same
          (is_whole panel_in count c.loop-k.k c.loop-k.panels c.loop-k.lines.lines old c.loop-k-test.false c.loop-k.invariant.read),
      c.loop-k.invariant.tail,
    )
