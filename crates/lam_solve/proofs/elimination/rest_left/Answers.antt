use Rattle.std.proofs.Common.{◌∙◌, SFits, w64, rules, pos}
use Rattle.std.proofs.lemmas.Int.{to_z-of_z}
use Rattle.lam_solve.specs.inside.Elimination.{less, rest_left}
use Rattle.lam_solve.proofs.elimination.rest_left.Goals as goal

pub returns : goal.returns
unfolding rest_left
returns c =
    let share-is = to_z-of_z w64 c.args.share c.ranges.share in
    let rest-second : SFits w64 c.args.rest.second = search rules in
    let rest-second-is = to_z-of_z w64 c.args.rest.second rest-second in
    let rest-third : SFits w64 c.args.rest.third = search rules in
    let rest-third-is = to_z-of_z w64 c.args.rest.third rest-third in
    let rest-fourth : SFits w64 c.args.rest.fourth = search rules in
    let rest-fourth-is = to_z-of_z w64 c.args.rest.fourth rest-fourth in
    let rest-fifth : SFits w64 c.args.rest.fifth = search rules in
    let rest-fifth-is = to_z-of_z w64 c.args.rest.fifth rest-fifth in
    let rest-sixth : SFits w64 c.args.rest.sixth = search rules in
    let rest-sixth-is = to_z-of_z w64 c.args.rest.sixth rest-sixth in
    let other-second : SFits w64 c.args.other.second = search rules in
    let other-second-is = to_z-of_z w64 c.args.other.second other-second in
    let other-third : SFits w64 c.args.other.third = search rules in
    let other-third-is = to_z-of_z w64 c.args.other.third other-third in
    let other-fourth : SFits w64 c.args.other.fourth = search rules in
    let other-fourth-is = to_z-of_z w64 c.args.other.fourth other-fourth in
    let other-fifth : SFits w64 c.args.other.fifth = search rules in
    let other-fifth-is = to_z-of_z w64 c.args.other.fifth other-fifth in
    let other-sixth : SFits w64 c.args.other.sixth = search rules in
    let other-sixth-is = to_z-of_z w64 c.args.other.sixth other-sixth in
    let first-is = to_z-of_z w64 c.less.result (record { sfits = c.less.type_inv }) ∙ c.less.ensures ∙ (λ i. less c.args.bits (rest-second-is i) (share-is i) (other-second-is i)) in
    let second-is = to_z-of_z w64 c.less-2.result (record { sfits = c.less-2.type_inv }) ∙ c.less-2.ensures ∙ (λ i. less c.args.bits (rest-third-is i) (share-is i) (other-third-is i)) in
    let third-is = to_z-of_z w64 c.less-3.result (record { sfits = c.less-3.type_inv }) ∙ c.less-3.ensures ∙ (λ i. less c.args.bits (rest-fourth-is i) (share-is i) (other-fourth-is i)) in
    let fourth-is = to_z-of_z w64 c.less-4.result (record { sfits = c.less-4.type_inv }) ∙ c.less-4.ensures ∙ (λ i. less c.args.bits (rest-fifth-is i) (share-is i) (other-fifth-is i)) in
    let fifth-is = to_z-of_z w64 c.less-5.result (record { sfits = c.less-5.type_inv }) ∙ c.less-5.ensures ∙ (λ i. less c.args.bits (rest-sixth-is i) (share-is i) (other-sixth-is i)) in
    λ i. record { first = first-is i; second = second-is i; third = third-is i; fourth = fourth-is i; fifth = fifth-is i; sixth = pos 0 }
