use Rattle.std.proofs.Common.{◌∙◌, sym, ap, unsigned_abs, w64, to_z, of_z, arith}
use Rattle.std.proofs.lemmas.Int.{to_z-of_z}
use Rattle.lam_tree.specs.inside.LineReading.{weight_of}
use Rattle.lam_tree.proofs.NodeLaws.{weight_of-is, weight_of-none}
use Rattle.lam_tree.proofs.read.make_weight.Goals as goal

pub returns-then-most-gt100 : goal.returns-then-most-gt100
returns-then-most-gt100 c = sym (weight_of-none c.args.x c.args.y c.args.s (λ w ex ey es.
    (let a = c.unsigned_abs-a.ensures.value ∙ ap unsigned_abs (to_z-of_z w64 c.args.x c.ranges.x ∙ ex) in
    let b = c.unsigned_abs-b.ensures.value ∙ ap unsigned_abs (to_z-of_z w64 c.args.y c.ranges.y ∙ ey) in
    let s = c.unsigned_abs-c.ensures.value ∙ ap unsigned_abs (to_z-of_z w64 c.args.s c.ranges.s ∙ es) in
    let x = w.x_range in let y = w.y_range in let z = w.s_range in
    let one = c.max.ensures in let both = c.max-most.ensures in let more = c.if-most-gt100.true in
    omega (arith, a, b, s, x, y, z, one, both, more))))

pub returns-then-a-b-lt1 : goal.returns-then-a-b-lt1
returns-then-a-b-lt1 c = sym (weight_of-none c.args.x c.args.y c.args.s (λ w ex ey es.
    (let a = c.unsigned_abs-a.ensures.value ∙ ap unsigned_abs (to_z-of_z w64 c.args.x c.ranges.x ∙ ex) in
    let b = c.unsigned_abs-b.ensures.value ∙ ap unsigned_abs (to_z-of_z w64 c.args.y c.ranges.y ∙ ey) in
    let s = c.unsigned_abs-c.ensures.value ∙ ap unsigned_abs (to_z-of_z w64 c.args.s c.ranges.s ∙ es) in
    let some = w.some in let less = c.if-a-b-lt1.true in
    omega (arith, a, b, s, some, less))))

pub returns : goal.returns
returns c =
    let x = to_z-of_z w64 c.args.x c.ranges.x in
    let y = to_z-of_z w64 c.args.y c.ranges.y in
    let s = to_z-of_z w64 c.args.s c.ranges.s in
    sym (weight_of-is _) ∙ ap (λ k. weight_of k (to_z w64 (of_z w64 c.args.y)) (to_z w64 (of_z w64 c.args.s))) x
    ∙ ap (λ k. weight_of c.args.x k (to_z w64 (of_z w64 c.args.s))) y ∙ ap (weight_of c.args.x c.args.y) s
