use Rattle.std.proofs.Common.{◌≡◌, sym, subst, rules, pos, ◌*◌, ◌^◌, ◌<ℤ◌}
use Rattle.lam_plate.specs.inside.Formulas as by
use Rattle.lam_plate.proofs.ShiftedUnits.{first-held, second-held}
use Rattle.lam_plate.proofs.units.shift_for.Goals as goal

pub returns-clause-load : goal.returns-clause-load
returns-clause-load c =
    let value : c.saturating_sub.result ≡ by.shift_for c.args.load c.args.stiffness = search rules in
    subst (λ k. c.args.load <ℤ pos (2 ^ 62 * 2 ^ k)) (sym value) (first-held c.args.load c.args.stiffness c.requires.load c.requires.stiffness c.ranges.load c.ranges.stiffness)

pub returns-clause-stiffness : goal.returns-clause-stiffness
returns-clause-stiffness c =
    let value : c.saturating_sub.result ≡ by.shift_for c.args.load c.args.stiffness = search rules in
    subst (λ k. c.args.stiffness <ℤ pos (2 ^ 62 * 2 ^ k)) (sym value) (second-held c.args.load c.args.stiffness c.requires.load c.requires.stiffness c.ranges.load c.ranges.stiffness)
