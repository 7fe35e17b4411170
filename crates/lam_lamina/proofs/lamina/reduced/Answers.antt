use Rattle.std.proofs.Common.{rules, subst, subst₂, sym, ◌≤◌, pos, ◌<ℤ◌}
use Rattle.std.specs.Prelude.{unsigned_abs}
use Rattle.lam_lamina.specs.Held.{HoldsModuli, NarrowModuli}
use Rattle.lam_lamina.specs.Stiffness.{moduli_over}
use Rattle.lam_lamina.specs.inside.Known.{ReachModuli}
use Rattle.lam_lamina.proofs.Bounds.{scale_positive}
use Rattle.lam_lamina.proofs.ReducedKnown.{stored-as, rest-stored, scale-stored, denominator-stored, denominator_fits, shear-stored, denominator_positive, q11-room, q12-room, q22-room, q66-room, held-reduced, narrow-reduced}
use Rattle.lam_lamina.proofs.StiffnessKnown.{reach-reduced}
use Rattle.lam_lamina.proofs.lamina.reduced.Goals as goal

pub product-denominator-requires : goal.product-denominator-requires
product-denominator-requires g c = denominator_fits c.requires (rest-stored c.requires c.poisson_rest.ensures.value)

pub modulus-requires-clause-positive : goal.modulus-requires-clause-positive
modulus-requires-clause-positive g c = subst (λ x. pos 0 <ℤ x) (sym (denominator-stored c.requires c.product-denominator.ensures (rest-stored c.requires c.poisson_rest.ensures.value))) (denominator_positive c.requires)

pub modulus-requires-clause-small : goal.modulus-requires-clause-small
modulus-requires-clause-small g c =
    let num = stored-as (record { sfits = c.q11_numerator.type_inv }) c.q11_numerator.ensures in
    subst₂ (λ x y. unsigned_abs x ≤ unsigned_abs y) (sym num) (sym (denominator-stored c.requires c.product-denominator.ensures (rest-stored c.requires c.poisson_rest.ensures.value))) (q11-room c.requires)

pub modulus-requires-2-clause-positive : goal.modulus-requires-2-clause-positive
modulus-requires-2-clause-positive g c = subst (λ x. pos 0 <ℤ x) (sym (denominator-stored c.requires c.product-denominator.ensures (rest-stored c.requires c.poisson_rest.ensures.value))) (denominator_positive c.requires)

pub modulus-requires-2-clause-small : goal.modulus-requires-2-clause-small
modulus-requires-2-clause-small g c =
    let num = stored-as (record { sfits = c.q12_numerator.type_inv }) c.q12_numerator.ensures in
    subst₂ (λ x y. unsigned_abs x ≤ unsigned_abs y) (sym num) (sym (denominator-stored c.requires c.product-denominator.ensures (rest-stored c.requires c.poisson_rest.ensures.value))) (q12-room c.requires)

pub modulus-requires-3-clause-positive : goal.modulus-requires-3-clause-positive
modulus-requires-3-clause-positive g c = subst (λ x. pos 0 <ℤ x) (sym (denominator-stored c.requires c.product-denominator.ensures (rest-stored c.requires c.poisson_rest.ensures.value))) (denominator_positive c.requires)

pub modulus-requires-3-clause-small : goal.modulus-requires-3-clause-small
modulus-requires-3-clause-small g c =
    let num = stored-as (record { sfits = c.q22_numerator.type_inv }) c.q22_numerator.ensures in
    subst₂ (λ x y. unsigned_abs x ≤ unsigned_abs y) (sym num) (sym (denominator-stored c.requires c.product-denominator.ensures (rest-stored c.requires c.poisson_rest.ensures.value))) (q22-room c.requires)

pub modulus-requires-4-clause-positive : goal.modulus-requires-4-clause-positive
modulus-requires-4-clause-positive g c = subst (λ x. pos 0 <ℤ x) (sym (scale-stored c.requires)) (scale_positive c.requires)

pub modulus-requires-4-clause-small : goal.modulus-requires-4-clause-small
modulus-requires-4-clause-small g c = subst₂ (λ x y. unsigned_abs x ≤ unsigned_abs y) (sym (shear-stored c.requires)) (sym (scale-stored c.requires)) (q66-room c.requires)

pub returns-clause-value : goal.returns-clause-value
returns-clause-value g c = search rules

pub returns-clause-held : goal.returns-clause-held
returns-clause-held g c = subst (λ r. HoldsModuli g.N.Enclosure.numbers r (moduli_over c.args.scale.now.q0 c.args.lamina.now)) (sym (returns-clause-value g c)) (held-reduced c.requires g.met.N.Enclosure.laws)

pub returns-clause-narrow : goal.returns-clause-narrow
returns-clause-narrow g c = subst (NarrowModuli 1 g.N.Enclosure.numbers) (sym (returns-clause-value g c)) (narrow-reduced c.requires g.met.N.Enclosure.laws)

pub returns-clause-reach : goal.returns-clause-reach
returns-clause-reach g c = subst (ReachModuli g.N.Enclosure.numbers) (sym (returns-clause-value g c)) (reach-reduced g.met.N.Enclosure.laws c.requires)
