use Rattle.std.proofs.Common.{◌∙◌, SFits, w64, rules}
use Rattle.std.proofs.lemmas.Int.{to_z-of_z}
use Rattle.lam_solve.specs.inside.Elimination.{left_of, less}
use Rattle.lam_solve.proofs.elimination.left_of.Goals as goal

pub returns : goal.returns
unfolding left_of
returns c =
    let shares-first : SFits w64 c.args.shares.first = search rules in
    let shares-first-is = to_z-of_z w64 c.args.shares.first shares-first in
    let shares-second : SFits w64 c.args.shares.second = search rules in
    let shares-second-is = to_z-of_z w64 c.args.shares.second shares-second in
    let shares-third : SFits w64 c.args.shares.third = search rules in
    let shares-third-is = to_z-of_z w64 c.args.shares.third shares-third in
    let shares-fourth : SFits w64 c.args.shares.fourth = search rules in
    let shares-fourth-is = to_z-of_z w64 c.args.shares.fourth shares-fourth in
    let shares-fifth : SFits w64 c.args.shares.fifth = search rules in
    let shares-fifth-is = to_z-of_z w64 c.args.shares.fifth shares-fifth in
    let of-first : SFits w64 c.args.of.first = search rules in
    let of-first-is = to_z-of_z w64 c.args.of.first of-first in
    let of-second : SFits w64 c.args.of.second = search rules in
    let of-second-is = to_z-of_z w64 c.args.of.second of-second in
    let of-third : SFits w64 c.args.of.third = search rules in
    let of-third-is = to_z-of_z w64 c.args.of.third of-third in
    let of-fourth : SFits w64 c.args.of.fourth = search rules in
    let of-fourth-is = to_z-of_z w64 c.args.of.fourth of-fourth in
    let of-fifth : SFits w64 c.args.of.fifth = search rules in
    let of-fifth-is = to_z-of_z w64 c.args.of.fifth of-fifth in
    let one = c.less-left.ensures ∙ (λ i. less c.args.bits (to_z-of_z w64 c.args.value c.ranges.value i) (shares-first-is i) (of-first-is i)) in
    let one-is = to_z-of_z w64 c.less-left.result (record { sfits = c.less-left.type_inv }) ∙ one in
    let two-is = to_z-of_z w64 c.less-left-2.result (record { sfits = c.less-left-2.type_inv }) ∙ c.less-left-2.ensures ∙ (λ i. less c.args.bits (one-is i) (shares-second-is i) (of-second-is i)) in
    let three-is = to_z-of_z w64 c.less-left-3.result (record { sfits = c.less-left-3.type_inv }) ∙ c.less-left-3.ensures ∙ (λ i. less c.args.bits (two-is i) (shares-third-is i) (of-third-is i)) in
    let four-is = to_z-of_z w64 c.less-left-4.result (record { sfits = c.less-left-4.type_inv }) ∙ c.less-left-4.ensures ∙ (λ i. less c.args.bits (three-is i) (shares-fourth-is i) (of-fourth-is i)) in
    to_z-of_z w64 c.less.result (record { sfits = c.less.type_inv }) ∙ c.less.ensures ∙ (λ i. less c.args.bits (four-is i) (shares-fifth-is i) (of-fifth-is i))
