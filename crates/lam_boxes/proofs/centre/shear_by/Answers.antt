use Rattle.std.proofs.Common.{◌∙◌, SFits, w64, rules}
use Rattle.std.proofs.lemmas.Int.{to_z-of_z}
use Rattle.lam_solve.specs.inside.Elimination.{largest, less, quotient}
use Rattle.lam_boxes.specs.inside.Centres.{shear_by}
use Rattle.lam_boxes.proofs.centre.shear_by.Goals as goal

pub returns : goal.returns
unfolding shear_by
returns c =
    let b = c.args.bits in
    let l = c.args.left.now in
    let fyy : SFits w64 l.yy = search rules in
    let fys : SFits w64 l.ys = search rules in
    let fss : SFits w64 l.ss = search rules in
    let fy : SFits w64 l.y = search rules in
    let fs : SFits w64 l.s = search rules in
    let yy = to_z-of_z w64 l.yy fyy in
    let ys = to_z-of_z w64 l.ys fys in
    let ss = to_z-of_z w64 l.ss fss in
    let y = to_z-of_z w64 l.y fy in
    let s = to_z-of_z w64 l.s fs in
    let share = to_z-of_z w64 c.quotient-share.result (record { sfits = c.quotient-share.type_inv }) ∙ c.quotient-share.ensures.value ∙ (λ i. quotient b largest (ys i) (yy i)) in
    let r-ss = to_z-of_z w64 c.less-ss.result (record { sfits = c.less-ss.type_inv }) ∙ c.less-ss.ensures ∙ (λ i. less b (ss i) (share i) (ys i)) in
    let r-s = to_z-of_z w64 c.less-s.result (record { sfits = c.less-s.type_inv }) ∙ c.less-s.ensures ∙ (λ i. less b (s i) (share i) (y i)) in
    to_z-of_z w64 c.quotient.result (record { sfits = c.quotient.type_inv }) ∙ c.quotient.ensures.value ∙ (λ i. quotient c.args.scale (to_z-of_z w64 c.args.most c.ranges.most i) (r-s i) (r-ss i))
