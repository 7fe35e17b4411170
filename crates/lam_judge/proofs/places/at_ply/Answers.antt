use Rattle.std.proofs.Common.{sym, ◌∙◌, ap, ℤ, w64}
use Rattle.std.proofs.lemmas.Int.{to_z-of_z}
use Rattle.lam_tsai.specs.declared.place.FaceSide.{FaceSide}
use Rattle.lam_tsai.specs.declared.place.FaceSide.TheVariants.{Inner, Outer}
use Rattle.lam_tsai.specs.declared.place.Side.{Side}
use Rattle.lam_judge.specs.inside.Findings.{and_then, at_face, at_ply}
use Rattle.lam_judge.specs.inside.Loads.{loaded_verdict}
use Rattle.lam_judge.proofs.Found.{settled-then}
use Rattle.lam_judge.proofs.places.at_ply.Goals as goal

pub returns-then-is_settled : goal.returns-then-is_settled
unfolding at_ply
returns-then-is_settled c =
    let a = c.args in
    let l = a.loaded.now in
    let k = a.criteria.now.coarse.kind in
    let face = λ (f : FaceSide) (x : ℤ). at_face l.case a.ply k (λ (side : Side). loaded_verdict a.criteria.now l x side) f in
    settled-then c.at_ply_face-first.result (face Outer a.outer) (sym c.is_settled.ensures ∙ c.if-is_settled.true)
    ∙ (λ i. and_then ((c.at_ply_face-first.ensures ∙ ap (face Inner) (to_z-of_z w64 a.inner c.ranges.inner)) i) (face Outer a.outer))

pub returns : goal.returns
unfolding at_ply
returns c =
    let a = c.args in
    let l = a.loaded.now in
    let k = a.criteria.now.coarse.kind in
    let face = λ (f : FaceSide) (x : ℤ). at_face l.case a.ply k (λ (side : Side). loaded_verdict a.criteria.now l x side) f in
    let inner = c.at_ply_face-first.ensures ∙ ap (face Inner) (to_z-of_z w64 a.inner c.ranges.inner) in
    let outer = c.at_ply_face.ensures ∙ ap (face Outer) (to_z-of_z w64 a.outer c.ranges.outer) in
    c.then.ensures ∙ (λ i. and_then (inner i) (outer i))
