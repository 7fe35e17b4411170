use Rattle.std.proofs.Common.{◌∙◌, w64}
use Rattle.std.proofs.lemmas.Int.{to_z-of_z}
use Rattle.lam_solve.specs.inside.Formulas.{at_face}
use Rattle.lam_judge.specs.inside.Loads.{verdict_by}
use Rattle.lam_judge.specs.inside.Scales.{coarse, fine}
use Rattle.lam_judge.proofs.TwoScales.{by-first, by-second, factor-stored, thickness-stored}
use Rattle.lam_judge.proofs.places.side_verdict.Goals as goal

pub returns-in-Straddles : goal.returns-in-Straddles
returns-in-Straddles c =
    let a = c.args in
    let l = a.loaded.now in
    let z = to_z-of_z w64 a.z c.ranges.z in
    let h = thickness-stored c.requires.ready in
    let factor = factor-stored c.requires.ready in
    by-second a.criteria.now l a.z a.side c.verdict_over.result c.verdict_over-in-Straddles.result
    (c.verdict_over.ensures ∙ (λ i. verdict_by coarse a.criteria.now.coarse (c.requires.coarse i) a.side (factor i)))
    c.in-Straddles.is
    (c.verdict_over-in-Straddles.ensures
    ∙ (λ i. verdict_by fine a.criteria.now.fine (c.at_face-fine.ensures.value i) a.side (factor i))
    ∙ (λ i. verdict_by fine a.criteria.now.fine (at_face fine.calc l.fine (z i) (h i)) a.side l.factor))

pub returns-in_default : goal.returns-in_default
returns-in_default c =
    let a = c.args in
    let l = a.loaded.now in
    let factor = factor-stored c.requires.ready in
    by-first a.criteria.now l a.z a.side c.verdict_over.result
    (c.verdict_over.ensures ∙ (λ i. verdict_by coarse a.criteria.now.coarse (c.requires.coarse i) a.side (factor i)))
    c.in_default.not-Straddles
