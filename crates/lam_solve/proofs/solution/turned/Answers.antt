use Rattle.std.proofs.Common.{refl, ◌∙◌, ap, w64}
use Rattle.std.proofs.lemmas.Int.{to_z-of_z}
use Rattle.lam_fraction.proofs.numbers.Machine.{is_exact, sized_stored-64, sized_at_most}
use Rattle.lam_solve.specs.inside.Solution.{moved, turned}
use Rattle.lam_solve.proofs.solution.turned.Goals as goal

pub returns-clause-strains : goal.returns-clause-strains
unfolding turned
returns-clause-strains g c =
    let n = g.N.Enclosure.numbers in
    let r = c.args.centre.now.residual in
    let ex-is = to_z-of_z w64 c.moved.result (record { sfits = c.moved.type_inv }) ∙ c.moved.ensures.value ∙ ap (λ z. moved n z r.ex) (is_exact (sized_stored-64 (sized_at_most c.requires.centre.ex)) refl) in
    let ey-is = to_z-of_z w64 c.moved-2.result (record { sfits = c.moved-2.type_inv }) ∙ c.moved-2.ensures.value ∙ ap (λ z. moved n z r.ey) (is_exact (sized_stored-64 (sized_at_most c.requires.centre.ey)) refl) in
    let g-is = to_z-of_z w64 c.moved-3.result (record { sfits = c.moved-3.type_inv }) ∙ c.moved-3.ensures.value ∙ ap (λ z. moved n z r.g) (is_exact (sized_stored-64 (sized_at_most c.requires.centre.g)) refl) in
    let kx-is = to_z-of_z w64 c.moved-4.result (record { sfits = c.moved-4.type_inv }) ∙ c.moved-4.ensures.value ∙ ap (λ z. moved n z r.kx) (is_exact (sized_stored-64 (sized_at_most c.requires.centre.kx)) refl) in
    let ky-is = to_z-of_z w64 c.moved-5.result (record { sfits = c.moved-5.type_inv }) ∙ c.moved-5.ensures.value ∙ ap (λ z. moved n z r.ky) (is_exact (sized_stored-64 (sized_at_most c.requires.centre.ky)) refl) in
    let kg-is = to_z-of_z w64 c.moved-6.result (record { sfits = c.moved-6.type_inv }) ∙ c.moved-6.ensures.value ∙ ap (λ z. moved n z r.kg) (is_exact (sized_stored-64 (sized_at_most c.requires.centre.kg)) refl) in
    λ i. record { ex = ex-is i; ey = ey-is i; g = g-is i; kx = kx-is i; ky = ky-is i; kg = kg-is i }
