use Rattle.std.proofs.Common.{◌≡◌, sym, subst, ap₂, ◌∙◌, pos, ◌^◌, ◌*ℤ◌, ◌≤ℤ◌, FitsSigned, w64, arith}
use Rattle.std.proofs.lemmas.Int.{ints, to_z-of_z}
use Rattle.lam_fraction.proofs.numbers.Machine.{stored-64}
use Rattle.lam_tsai.proofs.Shifts.{bearing-size, bearing-positive, bearing-fits}
use Rattle.lam_tsai.proofs.loaded.bearing.Goals as goal

factors : (c : goal.After-power) → stored-64 c.args.bound *ℤ stored-64 c.power.result ≡ c.args.bound *ℤ pos (2 ^ c.args.shift)
factors c = ap₂ ◌*ℤ◌ (to_z-of_z w64 c.args.bound c.ranges.bound) (to_z-of_z w64 c.power.result (record { sfits = c.power.type_inv }) ∙ c.power.ensures.value)

pub product-requires : goal.product-requires
product-requires c = subst (FitsSigned w64) (sym (factors c)) (bearing-fits c.args.bound c.args.shift c.requires.least c.requires.greatest c.requires.shift)

whole : (c : goal.After-product) → stored-64 c.product.result ≡ c.args.bound *ℤ pos (2 ^ c.args.shift)
whole c =
    to_z-of_z w64 c.product.result (record { sfits = c.product.type_inv }) ∙ c.product.ensures
    ∙ ap₂ ◌*ℤ◌ (to_z-of_z w64 c.args.bound c.ranges.bound) (to_z-of_z w64 c.power.result (record { sfits = c.power.type_inv }) ∙ c.power.ensures.value)

pub returns-clause-value : goal.returns-clause-value
returns-clause-value c = whole c

pub returns-clause-positive : goal.returns-clause-positive
returns-clause-positive c = subst (λ x. pos 1 ≤ℤ x) (sym (whole c)) (bearing-positive c.args.bound c.args.shift c.requires.least c.requires.greatest c.requires.shift)

pub returns-clause-small : goal.returns-clause-small
returns-clause-small c =
    let size = bearing-size c.args.bound c.args.shift c.requires.least c.requires.greatest c.requires.shift in
    subst (λ x. x ≤ℤ pos (2 ^ 48)) (sym (whole c)) (omega (arith, ints, size))
