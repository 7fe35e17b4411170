use Rattle.std.proofs.Common.{◌≡◌, refl, ◌∙◌, ap₂, ◌*ℤ◌}
use Rattle.std.specs.Int.{int_min}
use Rattle.lam_fraction.proofs.numbers.Machine.{stored-64, is_exact, sized_stored-64, sized_result, sized_product, sized_at_most, sized_between}
use Rattle.lam_support.proofs.SlopeFacts.{stored_strength}
use Rattle.lam_support.proofs.slopes.at_strengths.Goals as goal

pub returns : goal.returns
returns c =
    let w = c.args.weight.now in
    let l = c.args.lamina.now in
    let h = c.requires.strengths in
    let least = c.lesser.ensures.strength in
    let other = c.lesser-2.ensures.strength in
    let along : stored-64 c.at_strength.result ≡ w.along *ℤ c.lesser.result =
    is_exact (sized_stored-64 (sized_result c.at_strength.ensures (sized_product (sized_stored-64 (sized_at_most c.requires.small.along)) (sized_stored-64 (sized_between least.least least.greatest))))) refl in
    let across : stored-64 c.at_strength-2.result ≡ w.across *ℤ c.lesser-2.result =
    is_exact (sized_stored-64 (sized_result c.at_strength-2.ensures (sized_product (sized_stored-64 (sized_at_most c.requires.small.across)) (sized_stored-64 (sized_between other.least other.greatest))))) refl in
    let shear : stored-64 c.at_strength-3.result ≡ w.shear *ℤ l.s =
    is_exact (sized_stored-64 (sized_result c.at_strength-3.ensures (sized_product (sized_stored-64 (sized_at_most c.requires.small.shear)) (sized_stored-64 (sized_between h.s.least h.s.greatest))))) refl in
    let first : c.lesser.result ≡ int_min l.xt l.xc = c.lesser.ensures.value ∙ ap₂ int_min (stored_strength h.xt) (stored_strength h.xc) in
    let second : c.lesser-2.result ≡ int_min l.yt l.yc = c.lesser-2.ensures.value ∙ ap₂ int_min (stored_strength h.yt) (stored_strength h.yc) in
    λ i. record { along = (along ∙ (λ j. w.along *ℤ first j)) i; across = (across ∙ (λ j. w.across *ℤ second j)) i; shear = shear i }
