use Rattle.std.proofs.Common.{sym, ◌∙◌, ap, w64}
use Rattle.std.proofs.lemmas.Int.{to_z-of_z}
use Rattle.lam_job.specs.JobData.{JobData}
use Rattle.lam_judge.proofs.JudgedSteps.{all-in-range, first-out-is}
use Rattle.lam_judge.proofs.tests.is_in_range.Goals as goal

pub returns-in-None : goal.returns-in-None
returns-in-None c = λ t.
    let stock = c.args.stock.now in
    let job = c.args.job.now in
    let listed = c.args.listed.now in
    let cases = c.items.ensures ∙ ap (λ (j : JobData). j.cases) c.job.view_is in
    let stored = to_z-of_z w64 c.thickness-h.result (record { sfits = c.thickness-h.type_inv }) in
    let is = first-out-is stock job listed c.wall_plies-wall.result c.scale.result c.thickness-h.result _ c.items.result.now c.first_out.result (c.wall_plies-wall.ensures.wall stock) c.scale.ensures.value c.thickness-h.ensures.value stored cases c.first_out.ensures in
    all-in-range stock job listed (sym is ∙ c.in-None.is)
