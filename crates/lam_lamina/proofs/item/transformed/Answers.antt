use Rattle.std.proofs.Common.{rules, subst, sym}
use Rattle.lam_stock.specs.declared.item.Kind.TheVariants.{Ply}
use Rattle.lam_lamina.specs.Held.{HoldsMatrix, NarrowMatrix}
use Rattle.lam_lamina.specs.Stiffness.{stiffness_over}
use Rattle.lam_lamina.proofs.Identities.{stiffness-gives}
use Rattle.lam_lamina.proofs.StiffnessKnown.{held-transformed, narrow-transformed}
use Rattle.lam_lamina.proofs.item.transformed.Goals as goal

pub returns-clause-value : goal.returns-clause-value
returns-clause-value g c = search rules

pub returns-clause-held : goal.returns-clause-held
returns-clause-held g c = λ q0 l holds. subst (λ r. HoldsMatrix g.N.Enclosure.numbers r (stiffness_over q0 Ply l c.args.dir.now)) (sym (returns-clause-value g c)) (held-transformed g.met.N.Enclosure.laws c.direction_powers-powers.ensures.direction q0 l c.requires holds)

pub returns-clause-stiffness : goal.returns-clause-stiffness
returns-clause-stiffness g c = λ q0 l. stiffness-gives q0 Ply l c.args.dir.now

pub returns-clause-narrow : goal.returns-clause-narrow
returns-clause-narrow g c = λ q0 l covered holds narrow. subst (NarrowMatrix 32 g.N.Enclosure.numbers) (sym (returns-clause-value g c)) (narrow-transformed g.met.N.Enclosure.laws c.direction_powers-powers.ensures.direction q0 l covered holds narrow)
