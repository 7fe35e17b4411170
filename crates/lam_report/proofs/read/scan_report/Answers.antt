use Rattle.std.proofs.Common.{◌≡◌, ◌∙◌, ◌+◌, ◌-◌, ◌<◌, ◌≤◌, ap, refl, subst, sym, length, Result, Err}
use Rattle.lam_job.specs.Ranges.{IsJob}
use Rattle.lam_report.specs.LineText.{text_of, whole_lines}
use Rattle.lam_report.specs.declared.head.Opening.{Opening}
use Rattle.lam_report.specs.declared.head.ReadError.{ReadError}
use Rattle.lam_report.specs.declared.head.ReadError.TheVariants.{Refused}
use Rattle.lam_report.specs.inside.Gives.{Gives}
use Rattle.lam_report.specs.inside.Left.{bytes_of}
use Rattle.lam_report.specs.inside.ReportReading.{opening_at, report_of}
use Rattle.lam_report.proofs.ReadLaws.{behind_first, given_of, is_cut, lines_of_report, opening_err, read_err, read_more, read_ok, tree_err, tree_ok}
use Rattle.lam_report.proofs.read.scan_report.Goals as goal

pub returns-then-not-passes_tree-clause-answers : goal.returns-then-not-passes_tree-clause-answers
returns-then-not-passes_tree-clause-answers c =
    let s = c.items-items.ensures in
    let stock = c.args.stock.now in
    let job = c.args.job.now in
    let bytes = c.args.bytes.now in
    let old = c.of-lines.result in
    let given = given_of stock job s.names s.some s.few (subst IsJob c.job.view_is c.job.invariant) c.requires.liner in
    read_err stock job given bytes old c.of-lines.ensures c.passes_tree.new.lines c.fault_at.result.line
    (tree_err stock job given bytes old c.of-lines.ensures c.read_opening.new.lines c.passes_tree.new.lines c.in-Ok.opening c.in-Ok.ensures.read c.if-not-passes_tree.ensures)
    c.fault_at.ensures

pub returns-then-not-passes_tree-clause-only : goal.returns-then-not-passes_tree-clause-only
returns-then-not-passes_tree-clause-only c report spells = (returns-then-not-passes_tree-clause-answers c).no_report report spells

pub returns-then-len-gt0-clause-answers : goal.returns-then-len-gt0-clause-answers
returns-then-len-gt0-clause-answers c =
    let s = c.items-items.ensures in
    let stock = c.args.stock.now in
    let job = c.args.job.now in
    let bytes = c.args.bytes.now in
    let old = c.of-lines.result in
    let o = c.in-Ok.opening in
    let given = given_of stock job s.names s.some s.few (subst IsJob c.job.view_is c.job.invariant) c.requires.liner in
    let passed = c.if-not-passes_tree.ensures in
    read_more stock job given bytes old c.of-lines.ensures c.passes_tree.new.lines (report_of stock job o passed.0) c.fault_at-then-len-gt0.result.line
    (tree_ok stock job given bytes old c.of-lines.ensures c.read_opening.new.lines c.passes_tree.new.lines o passed.0 c.in-Ok.ensures.read passed.1 passed.2)
    (subst (λ n. 0 < n) c.len-in-Ok.ensures c.if-len-gt0.true) c.fault_at-then-len-gt0.ensures

pub returns-then-len-gt0-clause-only : goal.returns-then-len-gt0-clause-only
returns-then-len-gt0-clause-only c report spells = (returns-then-len-gt0-clause-answers c).no_report report spells

pub returns-else-len-gt0-clause-answers : goal.returns-else-len-gt0-clause-answers
returns-else-len-gt0-clause-answers c =
    let s = c.items-items.ensures in
    let stock = c.args.stock.now in
    let job = c.args.job.now in
    let bytes = c.args.bytes.now in
    let old = c.of-lines.result in
    let mid = c.read_opening.new.lines in
    let new = c.passes_tree.new.lines in
    let o = c.in-Ok.opening in
    let given = given_of stock job s.names s.some s.few (subst IsJob c.job.view_is c.job.invariant) c.requires.liner in
    let passed = c.if-not-passes_tree.ensures in
    let tree = passed.0 in
    let got = c.in-Ok.ensures.read in
    let none = subst (λ n. n ≤ 0) c.len-in-Ok.ensures c.if-len-gt0.false in
    let cut = is_cut stock job given bytes old c.of-lines.ensures mid new o tree got passed.1 passed.2 none in
    let place = behind_first (text_of cut.front) (bytes_of mid) bytes c.saturating_sub-at.result cut.text
    (c.saturating_sub-at.ensures ∙ ap (λ n. length bytes - n) c.len.ensures) in
    let first = ap (λ n. n + 1) (c.count_lines.ensures.value ∙ ap (λ t. length (whole_lines t)) place.0 ∙ cut.passed) in (
      report_of stock job o tree,
      read_ok stock job given bytes old c.of-lines.ensures new (report_of stock job o tree)
          (tree_ok stock job given bytes old c.of-lines.ensures mid new o tree got passed.1 passed.2) none,
      record {
        budget = refl;
        answer = refl;
        best = refl;
        ratios = refl;
        panels = refl;
        nodes = cut.count;
        line = lines_of_report cut.front tree (c.count_lines.result + 1) first ∙ ap length (sym cut.lines);
        byte = place.1 ∙ cut.rest;
      },
    )

pub returns-in-Err-Refused-clause-answers : goal.returns-in-Err-Refused-clause-answers
returns-in-Err-Refused-clause-answers c =
    let s = c.items-items.ensures in
    let stock = c.args.stock.now in
    let job = c.args.job.now in
    let bytes = c.args.bytes.now in
    let old = c.of-lines.result in
    let given = given_of stock job s.names s.some s.few (subst IsJob c.job.view_is c.job.invariant) c.requires.liner in
    let is : c.read_opening.result ≡ Err Refused = c.in-Err-Refused.is ∙ ap (λ (e : ReadError). Err e) c.in-Err-Refused.field-0-is in
    let gives = subst (λ (r : Result Opening ReadError). Gives r old c.read_opening.new.lines (opening_at stock job old.lines)) is c.read_opening.ensures.read in
    read_err stock job given bytes old c.of-lines.ensures c.read_opening.new.lines c.fault_at-in-Err-Refused.result.line
    (opening_err stock job given bytes old c.of-lines.ensures c.read_opening.new.lines gives) c.fault_at-in-Err-Refused.ensures

pub returns-in-Err-Refused-clause-only : goal.returns-in-Err-Refused-clause-only
returns-in-Err-Refused-clause-only c report spells = (returns-in-Err-Refused-clause-answers c).no_report report spells
