use Rattle.std.proofs.Common.{◌≡◌, refl, sym, ◌∙◌, ap, ap₂, subst, ◌*◌, ◌^◌, ◌≤◌, pos, ◌≤ℤ◌, unsigned_abs}
use Rattle.std.proofs.Math.Nat.{mul-le-mul}
use Rattle.lam_fraction.proofs.numbers.Machine.{stored-64, is_exact, sized_stored-64, sized_at_most}
use Rattle.lam_support.specs.inside.Formulas as by
use Rattle.lam_support.proofs.Sides.{fixed, square_sign}
use Rattle.lam_support.proofs.SlopeFacts.{greatest_small, greatest_some, greatest_few, greatest_narrow, within_greatest}
use Rattle.lam_support.proofs.item.side.Goals as goal

pub slopes_of-slopes-requires-clause-some : goal.slopes_of-slopes-requires-clause-some
slopes_of-slopes-requires-clause-some c =
    let l = c.args.lamina.now in
    let is = c.greatest-most.ensures ∙ ap by.greatest (c.at_strengths-steep.ensures ∙ ap (by.at_strengths l) c.ply_weight-weight.ensures.value) in
    subst (λ m. 1 ≤ m) (sym is) (greatest_some c.requires.strengths c.args.squares.now c.args.w.now c.requires.squares c.requires.circle)

pub slopes_of-slopes-requires-clause-small : goal.slopes_of-slopes-requires-clause-small
slopes_of-slopes-requires-clause-small c =
    let l = c.args.lamina.now in
    let is = c.greatest-most.ensures ∙ ap by.greatest (c.at_strengths-steep.ensures ∙ ap (by.at_strengths l) c.ply_weight-weight.ensures.value) in
    subst (λ m. m ≤ 2 ^ 62) (sym is) (greatest_few c.requires.strengths c.args.squares.now c.args.w.now c.requires.squares)

pub reach-far-requires-clause-sign : goal.reach-far-requires-clause-sign
reach-far-requires-clause-sign c =
    let l = c.args.lamina.now in
    let t = c.args.squares.now in
    let w = c.args.w.now in
    let steep : c.at_strengths-steep.result ≡ by.at_strengths l (by.ply_weight t w) = c.at_strengths-steep.ensures ∙ ap (by.at_strengths l) c.ply_weight-weight.ensures.value in
    let most : c.greatest-most.result ≡ by.greatest (by.at_strengths l (by.ply_weight t w)) = c.greatest-most.ensures ∙ ap by.greatest steep in
    let slopes = c.slopes_of-slopes.ensures.value ∙ (λ i. by.slopes fixed.calc (steep i) (pos (most i))) in
    subst (λ x. pos 0 ≤ℤ fixed.high x) (sym (λ i. by.square fixed.calc (c.requires.surface i) (slopes i)))
    (square_sign c.requires.strengths (by.ply_weight t w) _ (greatest_some c.requires.strengths t w c.requires.squares c.requires.circle) (greatest_few c.requires.strengths t w c.requires.squares) (within_greatest c.requires.strengths t w))

pub product-requires-clause-first : goal.product-requires-clause-first
product-requires-clause-first c =
    let l = c.args.lamina.now in
    let is = c.greatest-most.ensures ∙ ap by.greatest (c.at_strengths-steep.ensures ∙ ap (by.at_strengths l) c.ply_weight-weight.ensures.value) in
    subst (λ m. m ≤ 2 ^ 52) (sym is) (greatest_narrow c.requires.strengths c.args.squares.now c.args.w.now c.requires.squares)

pub returns-clause-value : goal.returns-clause-value
returns-clause-value c =
    let l = c.args.lamina.now in
    let t = c.args.squares.now in
    let w = c.args.w.now in
    let steep : c.at_strengths-steep.result ≡ by.at_strengths l (by.ply_weight t w) = c.at_strengths-steep.ensures ∙ ap (by.at_strengths l) c.ply_weight-weight.ensures.value in
    let most : c.greatest-most.result ≡ by.greatest (by.at_strengths l (by.ply_weight t w)) = c.greatest-most.ensures ∙ ap by.greatest steep in
    let slopes = c.slopes_of-slopes.ensures.value ∙ (λ i. by.slopes fixed.calc (steep i) (pos (most i))) in
    let far : stored-64 c.reach-far.result ≡ by.reach fixed (by.surface fixed.calc l) (by.slopes fixed.calc (by.at_strengths l (by.ply_weight t w)) (pos (by.greatest (by.at_strengths l (by.ply_weight t w))))) =
    is_exact (sized_stored-64 (sized_at_most c.reach-far.ensures.small)) refl ∙ c.reach-far.ensures.value ∙ (λ i. by.reach fixed (c.requires.surface i) (slopes i)) in
    c.product.ensures.value ∙ ap₂ ◌*◌ most (c.shortened.ensures.value ∙ ap (λ z. by.up (unsigned_abs z) 1024) far)

pub returns-clause-part : goal.returns-clause-part
returns-clause-part c =
    let l = c.args.lamina.now in
    let is = c.greatest-most.ensures ∙ ap by.greatest (c.at_strengths-steep.ensures ∙ ap (by.at_strengths l) c.ply_weight-weight.ensures.value) in
    let a = unsigned_abs c.args.squares.now.size in
    let most : c.greatest-most.result ≤ (600 * a) * 5000000 = subst (λ m. m ≤ (600 * a) * 5000000) (sym is) (greatest_small c.requires.strengths c.args.squares.now c.args.w.now c.requires.squares) in
    subst (λ n. n ≤ ((600 * a) * 5000000) * 2 ^ 52) (sym c.product.ensures.value) (mul-le-mul most c.shortened.ensures.small)
