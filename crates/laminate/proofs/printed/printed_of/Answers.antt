use Rattle.std.proofs.Common.{◌≡◌, sym, ◌∙◌, ap, ap₂, ◌*◌, length}
use Rattle.lam_job.specs.JobData.{JobData}
use Rattle.laminate.proofs.PrintedLists.{as_listed, panels_there, printed_lists, wall_plies_are}
use Rattle.laminate.proofs.printed.printed_of.Goals as goal

pub listed_ratios-requires-clause-plies : goal.listed_ratios-requires-clause-plies
listed_ratios-requires-clause-plies c =
    let stock = c.args.stock.now in
    ap length c.items-plies.ensures.items
    ∙ wall_plies_are stock c.args.job.now c.args.listed.now c.wall_plies-wall.result c.ratios.new.room
    (c.wall_plies-wall.ensures.known stock c.requires.schedule.job_for c.requires.schedule.known)
    (c.wall_plies-wall.ensures.wall stock) c.ratios.ensures.so

pub listed_ratios-requires-clause-number : goal.listed_ratios-requires-clause-number
listed_ratios-requires-clause-number c =
    let cases : c.items-cases.result.now ≡ c.args.job.now.cases = c.items-cases.ensures ∙ ap (λ (j : JobData). j.cases) c.job.view_is in
    ap₂ (λ m n. m * n) (ap length cases) (listed_ratios-requires-clause-plies c) ∙ sym c.ratios.ensures.so.number

pub listed_panels-requires-clause-number : goal.listed_panels-requires-clause-number
listed_panels-requires-clause-number c =
    let panels : c.items-panels.result.now ≡ c.args.job.now.panels = c.items-panels.ensures ∙ ap (λ (j : JobData). j.panels) c.job.view_is in
    panels_there c.args.stock.now c.args.job.now c.args.listed.now c.ratios.new.room c.requires.admissible c.ratios.ensures.so
    ∙ sym (ap length panels)

pub returns : goal.returns
returns c =
    as_listed c.args.stock.now c.args.job.now c.args.listed.now c.in_ok-listed_ratios.field-0 c.ratios.new.room.ratios
    c.in_ok-listed_panels.field-0 _ c.in_ok-listed_ratios.ensures c.in_ok-listed_panels.ensures
    (printed_lists c.args.stock.now c.args.job.now c.args.listed.now c.ratios.new.room c.ratios.ensures.value c.requires.admissible c.ratios.ensures.so)
