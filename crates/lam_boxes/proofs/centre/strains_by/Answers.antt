use Rattle.std.proofs.Common.{◌∙◌, SFits, w64, rules}
use Rattle.std.proofs.lemmas.Int.{to_z-of_z}
use Rattle.lam_solve.specs.inside.Elimination.{less, quotient}
use Rattle.lam_boxes.specs.inside.Centres.{shear_by, strains_by}
use Rattle.lam_boxes.proofs.centre.strains_by.Goals as goal

pub returns : goal.returns
unfolding strains_by
returns c =
    let b = c.args.bits in
    let k = c.args.scale in
    let m = c.args.matrix.now in
    let load = c.args.loads.now in
    let l = c.args.left.now in
    let fy : SFits w64 l.y = search rules in
    let fys : SFits w64 l.ys = search rules in
    let fyy : SFits w64 l.yy = search rules in
    let fxx : SFits w64 m.xx = search rules in
    let fxy : SFits w64 m.xy = search rules in
    let fxs : SFits w64 m.xs = search rules in
    let fx : SFits w64 load.x = search rules in
    let ly = to_z-of_z w64 l.y fy in
    let lys = to_z-of_z w64 l.ys fys in
    let lyy = to_z-of_z w64 l.yy fyy in
    let xx = to_z-of_z w64 m.xx fxx in
    let xy = to_z-of_z w64 m.xy fxy in
    let xs = to_z-of_z w64 m.xs fxs in
    let x = to_z-of_z w64 load.x fx in
    let most = to_z-of_z w64 c.args.most c.ranges.most in
    let s-is = to_z-of_z w64 c.shear_by-s.result (record { sfits = c.shear_by-s.type_inv }) ∙ c.shear_by-s.ensures ∙ (λ i. shear_by b k (most i) l) in
    let rest-y = to_z-of_z w64 c.less.result (record { sfits = c.less.type_inv }) ∙ c.less.ensures ∙ (λ i. less k (ly i) (lys i) (s-is i)) in
    let y-is = to_z-of_z w64 c.quotient-y.result (record { sfits = c.quotient-y.type_inv }) ∙ c.quotient-y.ensures.value ∙ (λ i. quotient k (most i) (rest-y i) (lyy i)) in
    let first = to_z-of_z w64 c.less-rest.result (record { sfits = c.less-rest.type_inv }) ∙ c.less-rest.ensures ∙ (λ i. less k (x i) (xy i) (y-is i)) in
    let second = to_z-of_z w64 c.less-2.result (record { sfits = c.less-2.type_inv }) ∙ c.less-2.ensures ∙ (λ i. less k (first i) (xs i) (s-is i)) in
    let x-is = to_z-of_z w64 c.quotient-x.result (record { sfits = c.quotient-x.type_inv }) ∙ c.quotient-x.ensures.value ∙ (λ i. quotient k (most i) (second i) (xx i)) in
    λ i. record { x = x-is i; y = y-is i; s = s-is i }
