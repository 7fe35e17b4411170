use Rattle.std.proofs.Common.{subst}
use Rattle.lam_stock.specs.Stock.{IsStock}
use Rattle.lam_job.specs.Ranges.{IsJob}
use Rattle.lam_boxes.proofs.Truth.{boxed-fails}
use Rattle.lam_boxes.proofs.laws.boxes_are_true.Goals as goal

pub returns : goal.returns
returns c = λ case d at at_case may e.
    boxed-fails c.args.stock.now c.args.job.now c.args.partial.now (subst (IsStock c.args.stock.now) c.scale-scale.ensures.value c.scale-scale.ensures.stock)
    (subst IsJob c.job.view_is c.job.invariant) c.requires case d at_case may at e
