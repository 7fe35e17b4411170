use Rattle.std.proofs.Common.{◌≡◌, ◌∙◌, ap₂, ◌*ℤ◌, ℤ, FitsSigned, w64, arith}
use Rattle.std.proofs.lemmas.Int.{ints, to_z-of_z}
use Rattle.lam_fraction.proofs.numbers.Machine.{stored-64}
use Rattle.lam_stock.specs.Limits.{IsStrength}
use Rattle.lam_tsai.specs.inside.Values as by
use Rattle.lam_tsai.proofs.criterion.Criterion.at_factor.Goals as goal

strength-stored : {x : ℤ} → IsStrength x → stored-64 x ≡ x
strength-stored {x} h = let fits : FitsSigned w64 x = omega (arith, ints, h.least, h.greatest) in to_z-of_z w64 x fits

pub returns : goal.returns
returns g c =
    let n = g.N.Enclosure.numbers in
    let self = c.args.self.now in
    let made = c.requires.made in
    let fits : FitsSigned w64 self.q0 = omega (arith, ints, made.least, made.greatest) in
    let load : stored-64 c.load_of-load.result ≡ self.q0 *ℤ c.args.factor =
    to_z-of_z w64 c.load_of-load.result (record { sfits = c.load_of-load.type_inv }) ∙ c.load_of-load.ensures.value
    ∙ ap₂ ◌*ℤ◌ (to_z-of_z w64 self.q0 fits) (to_z-of_z w64 c.args.factor c.ranges.factor) in
    let along = c.bear-along.ensures.value ∙ ap₂ (by.loaded n c.args.stress.now.along) load (strength-stored made.along.strength) in
    let across = c.bear-across.ensures.value ∙ ap₂ (by.loaded n c.args.stress.now.across) load (strength-stored made.across.strength) in
    let shear = c.bear-shear.ensures.value ∙ ap₂ (by.loaded n c.args.stress.now.shear) load (strength-stored made.shear.strength) in
    c.level_between.ensures ∙ (λ i. by.level_between n self.coefficients (along i) (across i) (shear i))
