use Rattle.std.proofs.Common.{sym, ◌∙◌, ap, ◌+ℤ◌, arith, get_or, to_z, w64, ℤ}
use Rattle.lam_job.proofs.Listed.{thickness-more}
use Rattle.lam_job.proofs.ThicknessSteps.{thickness-step}
use Rattle.lam_rules.proofs.thickness.thickness_of.Goals as goal

pub loop-ply-preserved : goal.loop-ply-preserved
loop-ply-preserved c =
    let items = c.args.items.now in
    let numbers = c.args.numbers.now in
    let k = c.loop-ply.ply-index in
    let so_far = c.loop-ply.invariant.so_far in
    let known = c.requires.known k (record { 0 = 0 }) c.loop-ply-test.true in
    let limits = (c.requires.limits (get_or numbers k (record { 0 = 0 })).0 c.index-items-ply.result known).limits.range.rest in
    let item = get_or items (get_or numbers k (record { 0 = 0 })).0 c.index-items-ply.result in
    let more = thickness-more items numbers k (record { 0 = 0 }) c.index-items-ply.result c.loop-ply-test.true c.requires.known in
    let step = thickness-step (to_z w64 c.loop-ply.sum-bits) item.lamina.t _ k c.loop-ply.invariant.least c.loop-ply.invariant.greatest (omega arith) limits.least_t limits.greatest_t
    (more ∙ ap (λ (s : ℤ). s +ℤ item.lamina.t) (sym so_far)) in
    record { so_far = step.value; least = step.least; greatest = step.greatest }
