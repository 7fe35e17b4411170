use Rattle.std.proofs.Common.{◌∙◌, ap, ◌*◌, unsigned_abs, w64}
use Rattle.std.proofs.lemmas.Int.{to_z-of_z}
use Rattle.lam_boxes.specs.inside.Boxes.{forces_within}
use Rattle.lam_boxes.proofs.boxes.bears.Goals as goal

pub returns : goal.returns
returns c =
    let a = c.size.ensures.value ∙ ap unsigned_abs (to_z-of_z w64 c.args.floor c.ranges.floor) in
    let b = c.size-2.ensures.value ∙ ap unsigned_abs (to_z-of_z w64 c.args.h c.ranges.h) in
    c.are_within.ensures ∙ (λ i. forces_within (a i * b i) c.args.load.now)
