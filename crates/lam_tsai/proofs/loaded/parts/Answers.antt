use Rattle.std.proofs.Common.{rules, sym, subst, ◌*◌, ◌≤◌}
use Rattle.lam_fraction.specs.numbers.Numbers.{reach, unit}
use Rattle.lam_tsai.proofs.Rounding.{parts-reach}
use Rattle.lam_tsai.proofs.loaded.parts.Goals as goal

pub returns-clause-value : goal.returns-clause-value
returns-clause-value g c = search rules

pub returns-clause-reach : goal.returns-clause-reach
returns-clause-reach g c = subst (λ z. reach g.N.Enclosure.numbers z ≤ 6 * unit g.N.Enclosure.numbers) (sym (returns-clause-value g c)) (parts-reach g.met.N.Enclosure.laws c.args.number c.requires)
