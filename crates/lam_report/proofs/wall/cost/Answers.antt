use Rattle.std.proofs.Common.{◌∙◌, ◌+◌, ap, ℕ, List}
use Rattle.std.specs.Prelude.{sum_by}
use Rattle.lam_stock.specs.declared.item.Item.{Item}
use Rattle.lam_stock.specs.declared.item.ItemNo.{ItemNo}
use Rattle.lam_job.specs.JobData.{JobData}
use Rattle.lam_job.specs.Schedule.{items_of}
use Rattle.lam_report.proofs.WriteLaws.{cost-both}
use Rattle.lam_report.proofs.wall.cost.Goals as goal

pub returns : goal.returns
returns c =
    let stock = c.args.stock.now in
    let costs : List ItemNo → ℕ = λ plies. sum_by (λ (i : Item). i.cost) (items_of stock plies) in
    ap (λ n. n + c.cost_of_plies-2.result) (c.cost_of_plies.ensures.value ∙ ap (λ (j : JobData). costs j.liner) c.job.view_is)
    ∙ ap (λ n. costs c.args.job.now.liner + n) c.cost_of_plies-2.ensures.value ∙ cost-both stock c.args.job.now c.args.listed.now
