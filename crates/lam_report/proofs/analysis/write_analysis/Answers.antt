use Rattle.std.proofs.Common.{◌∙◌, ◌*◌, refl, sym, ap, subst, length, ℕ, List, [], ◌∷◌, ◌++◌}
use Rattle.std.specs.Prelude.{◌/◌, ◌%◌, codes}
use Rattle.std.specs.Option.{option_map}
use Rattle.lam_job.specs.JobData.{JobData}
use Rattle.lam_job.specs.Schedule.{cost_of, wall_of}
use Rattle.lam_judge.specs.Printed.{panel_of, ratio_of}
use Rattle.lam_report.specs.LineText.{text_of}
use Rattle.lam_report.specs.ReportText.{analysis_text, counted, number_line, panel_line, panel_value, ratio_line, rules_line}
use Rattle.lam_report.specs.inside.Pieces.{Kept, Handed, seen}
use Rattle.lam_report.proofs.Handing.{began}
use Rattle.lam_report.proofs.TextLaws.{hands_same, line_is, lines_then}
use Rattle.lam_report.proofs.WriteLaws.{names-rule}
use Rattle.lam_report.proofs.analysis.write_analysis.Goals as goal

pub returns-clause-written : goal.returns-clause-written
returns-clause-written g c =
    let stock = c.args.stock.now in
    let job = c.args.job.now in
    let listed = c.args.listed.now in
    let room = c.args.room.now in
    let view = seen g.K.Sink.written g.K.Sink.faults g.K.Sink.stalls g.K.Sink.terms in
    let broken = option_map (λ rule. rule.0) c.breaks-broken.result in
    let opening : ℕ → List (List ℕ) = λ cost. codes "laminate analysis 1" ∷ number_line (codes "cost") cost ∷ rules_line broken ∷ [] in
    let ratios : ℕ → ℕ → List (List ℕ) = λ plies cases. counted (λ i. ratio_line (i / plies) (i % plies) (ratio_of room (i / plies) (i % plies))) 0 (cases * plies) in
    let panels : ℕ → List (List ℕ) = λ count. counted (λ k. panel_line k (panel_value (panel_of room k))) 0 count in
    let wall = c.wall_plies-plies.ensures.value stock c.requires.schedule.job_for.liner c.requires.schedule.known in
    let cases = ap length (c.items.ensures ∙ ap (λ (j : JobData). j.cases) c.job.view_is) in
    let number = ap length (c.items-2.ensures ∙ ap (λ (j : JobData). j.panels) c.job.view_is) in
    let plies = length (wall_of stock job listed) in
    let one = hands_same (ap (λ n. text_of (opening n)) c.cost.ensures) c.put_opening.ensures in
    let two = hands_same (ap (λ n. text_of (ratios n (length c.items.result.now))) wall ∙ ap (λ n. text_of (ratios plies n)) cases) c.put_ratios.ensures in
    let three = hands_same (ap (λ n. text_of (panels n)) number) c.put_panels.ensures in
    let four = line_is c.as_slice.ensures c.line.ensures in
    let end = codes "end" ∷ [] in
    let r = ratios plies (length job.cases) in
    let p = panels (length job.panels) in
    let all = lines_then (opening (cost_of stock job listed)) (r ++ (p ++ end)) one (lines_then r (p ++ end) two (lines_then p end three four)) in
    let start = g.K.Sink.written c.args.sink.now in
    let none = subst (λ (k : Kept). Handed start (view c.args.sink.now) k.left k.fault []) (sym c.new-pieces.ensures) (began start (view c.args.sink.now) refl) in
    let text = analysis_text stock job listed broken (ratio_of room) (panel_of room) in (
      text,
      (broken, names-rule stock job listed c.breaks-broken.result c.breaks-broken.ensures.none.0 c.breaks-broken.ensures.least, refl),
      c.finish.ensures.written start text (all.handed start [] none),
    )
