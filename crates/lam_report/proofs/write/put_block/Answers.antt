use Rattle.std.proofs.Common.{◌∙◌, ap, sym, subst, Option, List, ℕ, [], ◌∷◌, ◌++◌, ◌*◌, ◌≤◌, length}
use Rattle.std.specs.Prelude.{◌/◌, ◌%◌, codes}
use Rattle.std.proofs.Math.Nat.{mul-le-mul_right}
use Rattle.lam_job.specs.Schedule.{wall_of}
use Rattle.lam_tree.specs.declared.report.Best.{Best}
use Rattle.lam_tree.specs.ReportRanges.{IsBlock}
use Rattle.lam_report.specs.LineText.{text_of}
use Rattle.lam_report.specs.ReportText.{best_lines, names_line, number_line, numbered, panel_line, ratio_line, ratio_text}
use Rattle.lam_report.proofs.TextLaws.{hands_same, lines_then}
use Rattle.lam_report.proofs.write.put_block.Goals as goal

pub put_ratios-requires-clause-many : goal.put_ratios-requires-clause-many
put_ratios-requires-clause-many g c =
    let report = c.args.report.now in
    let block = subst (λ (o : Option Best). IsBlock c.args.stock.now c.args.job.now o report.ratios report.panels) c.in-Some.is c.requires.block in
    let wall = c.wall_plies-plies.ensures.value c.args.stock.now c.requires.liner block.1.known in
    let many = ap length c.items.ensures ∙ block.2.many ∙ ap (λ n. length c.args.job.now.cases * n) (sym wall) in
    let most = mul-le-mul_right c.wall_plies-plies.result c.wall_plies-plies.ensures.cases in
    subst (λ n. n ≤ 16 * c.wall_plies-plies.result) (sym many) most

pub put_panels-requires : goal.put_panels-requires
put_panels-requires g c =
    let report = c.args.report.now in
    let block = subst (λ (o : Option Best). IsBlock c.args.stock.now c.args.job.now o report.ratios report.panels) c.in-Some.is c.requires.block in
    subst (λ n. n ≤ 8) (sym (ap length c.items-in-Some.ensures ∙ block.3.many)) c.wall_plies-plies.ensures.panels

pub returns-in-Some : goal.returns-in-Some
returns-in-Some g c =
    let report = c.args.report.now in
    let stock = c.args.stock.now in
    let b = c.in-Some.best in
    let block = subst (λ (o : Option Best). IsBlock stock c.args.job.now o report.ratios report.panels) c.in-Some.is c.requires.block in
    let wall = c.wall_plies-plies.ensures.value stock c.requires.liner block.1.known in
    let plies = length (wall_of stock c.args.job.now b.plies) in
    let lines : ℕ → List ℕ → List (List ℕ) = λ n rs. numbered (λ i r. ratio_line (i / n) (i % n) r) 0 rs in
    let panel : List ℕ → List (List ℕ) = λ rs. numbered (λ k r. panel_line k (ratio_text r)) 0 rs in
    let ratios = hands_same (ap (λ n. text_of (lines n c.items.result.now)) wall ∙ ap (λ rs. text_of (lines plies rs)) c.items.ensures) c.put_ratios.ensures in
    let panels = hands_same (ap (λ rs. text_of (panel rs)) c.items-in-Some.ensures) c.put_panels.ensures in
    hands_same (ap (λ o. text_of (best_lines stock c.args.job.now o report.ratios report.panels)) (sym c.in-Some.is))
    (lines_then (number_line (codes "cost") b.cost ∷ names_line (codes "schedule") stock b.plies ∷ []) (lines plies report.ratios ++ panel report.panels) c.put_best.ensures
    (lines_then (lines plies report.ratios) (panel report.panels) ratios panels))
