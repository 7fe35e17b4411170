use Rattle.std.proofs.Common.{rules, subst, sym}
use Rattle.lam_lamina.specs.Held.{HoldsMatrix, NarrowMatrix}
use Rattle.lam_lamina.specs.Stiffness.{stiffness_over}
use Rattle.lam_lamina.proofs.Entries.{entries-bounded}
use Rattle.lam_lamina.proofs.Identities.{stiffness-gives}
use Rattle.lam_lamina.proofs.StiffnessKnown.{held-item, narrow-item}
use Rattle.lam_lamina.proofs.item.item_stiffness.Goals as goal

pub returns-in-Ply-clause-bounded : goal.returns-in-Ply-clause-bounded
returns-in-Ply-clause-bounded g c = entries-bounded c.args.item.now.kind c.requires c.transformed-ply.ensures.direction

pub returns-in-Pair-clause-value : goal.returns-in-Pair-clause-value
returns-in-Pair-clause-value g c = search rules

pub returns-in-Pair-clause-held : goal.returns-in-Pair-clause-held
returns-in-Pair-clause-held g c = subst (λ r. HoldsMatrix g.N.Enclosure.numbers r (stiffness_over c.args.scale.now.q0 c.args.item.now.kind c.args.item.now.lamina c.args.item.now.dir)) (sym (returns-in-Pair-clause-value g c)) (held-item g.met.N.Enclosure.laws c.transformed-ply.ensures.direction c.requires c.args.item.now.kind)

pub returns-in-Pair-clause-stiffness : goal.returns-in-Pair-clause-stiffness
returns-in-Pair-clause-stiffness g c = stiffness-gives c.args.scale.now.q0 c.args.item.now.kind c.args.item.now.lamina c.args.item.now.dir

pub returns-in-Pair-clause-bounded : goal.returns-in-Pair-clause-bounded
returns-in-Pair-clause-bounded g c = entries-bounded c.args.item.now.kind c.requires c.transformed-ply.ensures.direction

pub returns-in-Pair-clause-narrow : goal.returns-in-Pair-clause-narrow
returns-in-Pair-clause-narrow g c = subst (NarrowMatrix 32 g.N.Enclosure.numbers) (sym (returns-in-Pair-clause-value g c)) (narrow-item g.met.N.Enclosure.laws c.transformed-ply.ensures.direction c.requires c.args.item.now.kind)
