use Rattle.std.proofs.Common.{◌≡◌, ◌∙◌, sym, subst, ap, ap₂, Some, ◌^◌, ◌-◌, ◌*◌, ◌≤◌, pos, ◌-ℤ◌, ◌≤ℤ◌, ◌<ℤ◌, FitsSigned, w64, arith}
use Rattle.std.specs.Prelude.{unsigned_abs}
use Rattle.std.proofs.lemmas.Int.{ints, to_z-of_z}
use Rattle.lam_fraction.specs.numbers.Numbers.{unit}
use Rattle.lam_fraction.proofs.numbers.Machine.{stored-64}
use Rattle.lam_tsai.specs.inside.Reach.{ReachRound}
use Rattle.lam_tsai.specs.inside.Values as by
use Rattle.lam_tsai.proofs.Rounding.{middle, half, half-fits, half-far, half-room, middle-far, middle-room, narrow-wide, narrow-fine, reach-round}
use Rattle.lam_tsai.proofs.loaded.stretched.Goals as goal

pub overflow_sub-half : goal.overflow_sub-half
overflow_sub-half g c =
    let laws = g.met.N.Enclosure.laws in
    let middle_is = to_z-of_z w64 c.middle-middle.result (record { sfits = c.middle-middle.type_inv }) ∙ c.middle-middle.ensures in
    let high_is = to_z-of_z w64 c.high.result (record { sfits = c.high.type_inv }) ∙ c.high.ensures in
    subst (FitsSigned w64) (sym (ap₂ ◌-ℤ◌ high_is middle_is)) (half-fits laws c.args.y c.requires)

pub returns-then-unit_over-half-clause-value : goal.returns-then-unit_over-half-clause-value
returns-then-unit_over-half-clause-value g c =
    let n = g.N.Enclosure.numbers in
    let laws = g.met.N.Enclosure.laws in
    let y = c.args.y in
    let middle_is = to_z-of_z w64 c.middle-middle.result (record { sfits = c.middle-middle.type_inv }) ∙ c.middle-middle.ensures in
    let high_is = to_z-of_z w64 c.high.result (record { sfits = c.high.type_inv }) ∙ c.high.ensures in
    let both = ap₂ ◌-ℤ◌ high_is middle_is in
    let half_is : stored-64 (stored-64 c.high.result -ℤ stored-64 c.middle-middle.result) ≡ half laws y c.requires = to_z-of_z w64 _ (subst (FitsSigned w64) (sym both) (half-fits laws y c.requires)) ∙ both in
    let unit_is = to_z-of_z w64 c.unit_over.result (record { sfits = c.unit_over.type_inv }) in
    let wide : pos (2 ^ (n.scale - 4)) <ℤ half laws y c.requires = omega (arith, ints, half_is, unit_is, c.unit_over.ensures.value, c.if-unit_over-half.true) in
    narrow-wide n (middle laws y c.requires) (half laws y c.requires) wide

pub about-requires-clause-middle : goal.about-requires-clause-middle
about-requires-clause-middle g c =
    let n = g.N.Enclosure.numbers in
    let laws = g.met.N.Enclosure.laws in
    let y = c.args.y in
    let middle_is = to_z-of_z w64 c.middle-middle.result (record { sfits = c.middle-middle.type_inv }) ∙ c.middle-middle.ensures in
    let high_is = to_z-of_z w64 c.high.result (record { sfits = c.high.type_inv }) ∙ c.high.ensures in
    let both = ap₂ ◌-ℤ◌ high_is middle_is in
    let half_is : stored-64 (stored-64 c.high.result -ℤ stored-64 c.middle-middle.result) ≡ half laws y c.requires = to_z-of_z w64 _ (subst (FitsSigned w64) (sym both) (half-fits laws y c.requires)) ∙ both in
    let unit_is = to_z-of_z w64 c.unit_over.result (record { sfits = c.unit_over.type_inv }) in
    subst (λ z. unsigned_abs z ≤ 2 * unit n) (sym middle_is) (middle-room laws y c.requires)

pub about-requires-clause-half : goal.about-requires-clause-half
about-requires-clause-half g c =
    let n = g.N.Enclosure.numbers in
    let laws = g.met.N.Enclosure.laws in
    let y = c.args.y in
    let middle_is = to_z-of_z w64 c.middle-middle.result (record { sfits = c.middle-middle.type_inv }) ∙ c.middle-middle.ensures in
    let high_is = to_z-of_z w64 c.high.result (record { sfits = c.high.type_inv }) ∙ c.high.ensures in
    let both = ap₂ ◌-ℤ◌ high_is middle_is in
    let half_is : stored-64 (stored-64 c.high.result -ℤ stored-64 c.middle-middle.result) ≡ half laws y c.requires = to_z-of_z w64 _ (subst (FitsSigned w64) (sym both) (half-fits laws y c.requires)) ∙ both in
    let unit_is = to_z-of_z w64 c.unit_over.result (record { sfits = c.unit_over.type_inv }) in
    let fine : half laws y c.requires ≤ℤ pos (2 ^ (n.scale - 4)) = omega (arith, ints, half_is, unit_is, c.unit_over.ensures.value, c.if-unit_over-half.false) in
    subst (λ z. unsigned_abs z ≤ 2 * unit n) (sym half_is) (half-room laws y c.requires fine)

pub returns-clause-value : goal.returns-clause-value
returns-clause-value g c =
    let n = g.N.Enclosure.numbers in
    let laws = g.met.N.Enclosure.laws in
    let y = c.args.y in
    let middle_is = to_z-of_z w64 c.middle-middle.result (record { sfits = c.middle-middle.type_inv }) ∙ c.middle-middle.ensures in
    let high_is = to_z-of_z w64 c.high.result (record { sfits = c.high.type_inv }) ∙ c.high.ensures in
    let both = ap₂ ◌-ℤ◌ high_is middle_is in
    let half_is : stored-64 (stored-64 c.high.result -ℤ stored-64 c.middle-middle.result) ≡ half laws y c.requires = to_z-of_z w64 _ (subst (FitsSigned w64) (sym both) (half-fits laws y c.requires)) ∙ both in
    let unit_is = to_z-of_z w64 c.unit_over.result (record { sfits = c.unit_over.type_inv }) in
    let fine : half laws y c.requires ≤ℤ pos (2 ^ (n.scale - 4)) = omega (arith, ints, half_is, unit_is, c.unit_over.ensures.value, c.if-unit_over-half.false) in
    ap Some (c.about.ensures ∙ ap₂ (by.round n) middle_is half_is) ∙ narrow-fine n (middle laws y c.requires) (half laws y c.requires) fine

pub returns-clause-reach : goal.returns-clause-reach
returns-clause-reach g c =
    let n = g.N.Enclosure.numbers in
    let laws = g.met.N.Enclosure.laws in
    let y = c.args.y in
    let middle_is = to_z-of_z w64 c.middle-middle.result (record { sfits = c.middle-middle.type_inv }) ∙ c.middle-middle.ensures in
    let high_is = to_z-of_z w64 c.high.result (record { sfits = c.high.type_inv }) ∙ c.high.ensures in
    let both = ap₂ ◌-ℤ◌ high_is middle_is in
    let half_is : stored-64 (stored-64 c.high.result -ℤ stored-64 c.middle-middle.result) ≡ half laws y c.requires = to_z-of_z w64 _ (subst (FitsSigned w64) (sym both) (half-fits laws y c.requires)) ∙ both in
    let unit_is = to_z-of_z w64 c.unit_over.result (record { sfits = c.unit_over.type_inv }) in
    let fine : half laws y c.requires ≤ℤ pos (2 ^ (n.scale - 4)) = omega (arith, ints, half_is, unit_is, c.unit_over.ensures.value, c.if-unit_over-half.false) in
    subst (ReachRound n) (sym (c.about.ensures ∙ ap₂ (by.round n) middle_is half_is))
    (reach-round laws (middle laws y c.requires) (half laws y c.requires) (middle-far laws y c.requires) (half-far laws y c.requires fine))
