use Rattle.std.proofs.Common.{◌∙◌, SFits, w64, rules}
use Rattle.std.proofs.lemmas.Int.{to_z-of_z}
use Rattle.lam_solve.specs.inside.Elimination.{largest, less, quotient}
use Rattle.lam_boxes.specs.inside.Centres.{without_x}
use Rattle.lam_boxes.proofs.centre.without_x.Goals as goal

pub returns : goal.returns
unfolding without_x
returns c =
    let b = c.args.bits in
    let m = c.args.matrix.now in
    let l = c.args.loads.now in
    let fxx : SFits w64 m.xx = search rules in
    let fxy : SFits w64 m.xy = search rules in
    let fyy : SFits w64 m.yy = search rules in
    let fxs : SFits w64 m.xs = search rules in
    let fys : SFits w64 m.ys = search rules in
    let fss : SFits w64 m.ss = search rules in
    let fx : SFits w64 l.x = search rules in
    let fy : SFits w64 l.y = search rules in
    let fs : SFits w64 l.s = search rules in
    let xx = to_z-of_z w64 m.xx fxx in
    let xy = to_z-of_z w64 m.xy fxy in
    let yy = to_z-of_z w64 m.yy fyy in
    let xs = to_z-of_z w64 m.xs fxs in
    let ys = to_z-of_z w64 m.ys fys in
    let ss = to_z-of_z w64 m.ss fss in
    let x = to_z-of_z w64 l.x fx in
    let y = to_z-of_z w64 l.y fy in
    let s = to_z-of_z w64 l.s fs in
    let first = to_z-of_z w64 c.quotient-y.result (record { sfits = c.quotient-y.type_inv }) ∙ c.quotient-y.ensures.value ∙ (λ i. quotient b largest (xy i) (xx i)) in
    let second = to_z-of_z w64 c.quotient-s.result (record { sfits = c.quotient-s.type_inv }) ∙ c.quotient-s.ensures.value ∙ (λ i. quotient b largest (xs i) (xx i)) in
    let r-yy = to_z-of_z w64 c.less.result (record { sfits = c.less.type_inv }) ∙ c.less.ensures ∙ (λ i. less b (yy i) (first i) (xy i)) in
    let r-ys = to_z-of_z w64 c.less-2.result (record { sfits = c.less-2.type_inv }) ∙ c.less-2.ensures ∙ (λ i. less b (ys i) (first i) (xs i)) in
    let r-ss = to_z-of_z w64 c.less-3.result (record { sfits = c.less-3.type_inv }) ∙ c.less-3.ensures ∙ (λ i. less b (ss i) (second i) (xs i)) in
    let r-y = to_z-of_z w64 c.less-4.result (record { sfits = c.less-4.type_inv }) ∙ c.less-4.ensures ∙ (λ i. less b (y i) (first i) (x i)) in
    let r-s = to_z-of_z w64 c.less-5.result (record { sfits = c.less-5.type_inv }) ∙ c.less-5.ensures ∙ (λ i. less b (s i) (second i) (x i)) in
    λ i. record { yy = r-yy i; ys = r-ys i; ss = r-ss i; y = r-y i; s = r-s i }
