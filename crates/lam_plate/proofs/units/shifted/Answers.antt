use Rattle.std.proofs.Common.{◌≡◌, sym, ◌∙◌, ap, subst, pos, ◌≤ℤ◌, ◌<ℤ◌, ◌^◌, SFits, w64}
use Rattle.std.specs.Int.{w128}
use Rattle.std.proofs.lemmas.Int.{to_z-of_z}
use Rattle.lam_number.proofs.Casts.{read_narrow, read_wide}
use Rattle.lam_fraction.proofs.numbers.Machine.{stored-128}
use Rattle.lam_plate.specs.inside.Formulas as by
use Rattle.lam_plate.proofs.ShiftedUnits.{shifted-most, shifted-least, small-fits}
use Rattle.lam_plate.proofs.units.shifted.Goals as goal

pub narrow-requires : goal.narrow-requires
narrow-requires c =
    let e : stored-128 c.shift_down.result ≡ by.shifted c.args.z c.args.shift =
    read_wide _ _ (record { sfits = c.shift_down.type_inv }) (c.shift_down.ensures ∙ ap (λ z. by.shifted z c.args.shift) (to_z-of_z w128 c.args.z c.ranges.z)) in
    subst (SFits w64) (sym e) (small-fits _ (shifted-least c.args.z c.args.shift c.requires.least) (shifted-most c.args.z c.args.shift (2 ^ 62) c.requires.most))

pub returns-clause-value : goal.returns-clause-value
returns-clause-value c =
    read_narrow _ _ (record { sfits = c.narrow.type_inv })
    (c.narrow.ensures ∙ read_wide _ _ (record { sfits = c.shift_down.type_inv }) (c.shift_down.ensures ∙ ap (λ z. by.shifted z c.args.shift) (to_z-of_z w128 c.args.z c.ranges.z)))

pub returns-clause-least : goal.returns-clause-least
returns-clause-least c = subst (λ z. pos 0 ≤ℤ z) (sym (returns-clause-value c)) (shifted-least c.args.z c.args.shift c.requires.least)

pub returns-clause-most : goal.returns-clause-most
returns-clause-most c = subst (λ z. z <ℤ pos (2 ^ 62)) (sym (returns-clause-value c)) (shifted-most c.args.z c.args.shift (2 ^ 62) c.requires.most)
