use Rattle.std.proofs.Common.{refl, sym, subst, ap, ◌∙◌, pos, ◌^◌, ◌≤◌, ◌≤ℤ◌, arith}
use Rattle.std.proofs.lemmas.Int.{ints}
use Rattle.lam_fraction.proofs.numbers.Machine.{natural_is-64}
use Rattle.lam_tsai.proofs.Shifts.{power-small}
use Rattle.lam_tsai.proofs.loaded.power.Goals as goal

few : (c : goal.After-two_to) → c.two_to.result ≤ 2 ^ 60
few c = subst (λ x. x ≤ 2 ^ 60) (sym c.two_to.ensures) (power-small c.args.exponent 60 c.requires)

pub overflow_cast-result : goal.overflow_cast-result
overflow_cast-result c = let small = few c in omega (arith, ints, small)

pub returns-clause-value : goal.returns-clause-value
returns-clause-value c = natural_is-64 c.two_to.result (2 ^ 60) (few c) refl ∙ ap pos c.two_to.ensures

pub returns-clause-greatest : goal.returns-clause-greatest
returns-clause-greatest c =
    let small = few c in
    subst (λ x. x ≤ℤ pos (2 ^ 60)) (sym (natural_is-64 c.two_to.result (2 ^ 60) small refl)) (omega (arith, ints, small))
