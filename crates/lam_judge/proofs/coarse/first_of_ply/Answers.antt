use Rattle.std.proofs.Common.{sym, ◌∙◌, subst, ℤ, w64}
use Rattle.std.proofs.lemmas.Int.{to_z-of_z}
use Rattle.lam_tsai.specs.declared.place.FaceSide.{FaceSide}
use Rattle.lam_tsai.specs.declared.place.FaceSide.TheVariants.{Inner, Outer}
use Rattle.lam_tsai.specs.declared.place.Side.{Side}
use Rattle.lam_judge.specs.inside.Findings.{at_face, Settles}
use Rattle.lam_judge.specs.inside.Judged.{decided}
use Rattle.lam_judge.specs.inside.Loads.{strain_by, verdict_by}
use Rattle.lam_judge.specs.inside.Scales.{coarse}
use Rattle.lam_judge.proofs.CoarsePlies.{ply-passed, ply-stopped}
use Rattle.lam_judge.proofs.coarse.first_of_ply.Goals as goal

pub returns-then-not-is_clear : goal.returns-then-not-is_clear
returns-then-not-is_clear c = λ second.
    let a = c.args in
    let k = a.criterion.now.kind in
    let factor = to_z-of_z w64 a.factor c.ranges.factor in
    let inner = subst (λ (x : ℤ). Settles c.first_of_face-first.result (at_face a.case a.ply k (λ (side : Side). decided (verdict_by coarse a.criterion.now a.inner.now side x) (second Inner side)) Inner)) factor (c.first_of_face-first.ensures (second Inner)) in
    ply-stopped a.case a.ply k (λ (face : FaceSide) (side : Side). verdict_by coarse a.criterion.now (strain_by a.inner.now a.outer.now face) side a.factor) second c.first_of_face-first.result inner (sym c.is_clear.ensures ∙ c.if-not-is_clear.true)

pub returns : goal.returns
returns c = λ second.
    let a = c.args in
    let k = a.criterion.now.kind in
    let factor = to_z-of_z w64 a.factor c.ranges.factor in
    let inner = subst (λ (x : ℤ). Settles c.first_of_face-first.result (at_face a.case a.ply k (λ (side : Side). decided (verdict_by coarse a.criterion.now a.inner.now side x) (second Inner side)) Inner)) factor (c.first_of_face-first.ensures (second Inner)) in
    let outer = subst (λ (x : ℤ). Settles c.first_of_face.result (at_face a.case a.ply k (λ (side : Side). decided (verdict_by coarse a.criterion.now a.outer.now side x) (second Outer side)) Outer)) factor (c.first_of_face.ensures (second Outer)) in
    ply-passed a.case a.ply k (λ (face : FaceSide) (side : Side). verdict_by coarse a.criterion.now (strain_by a.inner.now a.outer.now face) side a.factor) second c.first_of_face-first.result c.first_of_face.result inner (sym c.is_clear.ensures ∙ c.if-not-is_clear.false) outer
