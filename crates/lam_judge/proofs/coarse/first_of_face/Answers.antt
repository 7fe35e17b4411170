use Rattle.std.proofs.Common.{sym, ◌∙◌, ap, w64}
use Rattle.std.proofs.lemmas.Int.{to_z-of_z}
use Rattle.lam_tsai.specs.declared.place.Place.{Place}
use Rattle.lam_tsai.specs.declared.place.Side.{Side}
use Rattle.lam_tsai.specs.declared.place.Side.TheVariants.{Plus, Minus}
use Rattle.lam_judge.specs.inside.Findings.{found}
use Rattle.lam_judge.specs.inside.Loads.{verdict_by}
use Rattle.lam_judge.specs.inside.Scales.{coarse}
use Rattle.lam_judge.proofs.CoarsePlies.{face-pair, face-ply, face-stopped}
use Rattle.lam_judge.proofs.coarse.first_of_face.Goals as goal

pub returns-in-Ply : goal.returns-in-Ply
returns-in-Ply c = λ second.
    let a = c.args in
    let first = λ (side : Side). verdict_by coarse a.criterion.now a.at.now side a.factor in
    let plus : Place = record { case = a.case; ply = a.ply; face = a.face; side = Plus } in
    let is = c.of-first.ensures ∙ ap (λ v. found v plus) (c.verdict_over.ensures ∙ ap (verdict_by coarse a.criterion.now a.at.now Plus) (to_z-of_z w64 a.factor c.ranges.factor)) in
    face-ply a.case a.ply first second a.face a.criterion.now.kind c.of-first.result c.in-Ply.is is

pub returns-then-not-is_clear : goal.returns-then-not-is_clear
returns-then-not-is_clear c = λ second.
    let a = c.args in
    let first = λ (side : Side). verdict_by coarse a.criterion.now a.at.now side a.factor in
    let plus : Place = record { case = a.case; ply = a.ply; face = a.face; side = Plus } in
    let is = c.of-first.ensures ∙ ap (λ v. found v plus) (c.verdict_over.ensures ∙ ap (verdict_by coarse a.criterion.now a.at.now Plus) (to_z-of_z w64 a.factor c.ranges.factor)) in
    face-stopped a.case a.ply first second a.face a.criterion.now.kind c.of-first.result c.in-Pair.is is (sym c.is_clear.ensures ∙ c.if-not-is_clear.true)

pub returns-else-not-is_clear : goal.returns-else-not-is_clear
returns-else-not-is_clear c = λ second.
    let a = c.args in
    let first = λ (side : Side). verdict_by coarse a.criterion.now a.at.now side a.factor in
    let plus : Place = record { case = a.case; ply = a.ply; face = a.face; side = Plus } in
    let minus : Place = record { case = a.case; ply = a.ply; face = a.face; side = Minus } in
    let factor = to_z-of_z w64 a.factor c.ranges.factor in
    let is = c.of-first.ensures ∙ ap (λ v. found v plus) (c.verdict_over.ensures ∙ ap (verdict_by coarse a.criterion.now a.at.now Plus) factor) in
    let later = c.of.ensures ∙ ap (λ v. found v minus) (c.verdict_over-in-Pair.ensures ∙ ap (verdict_by coarse a.criterion.now a.at.now Minus) factor) in
    face-pair a.case a.ply first second a.face a.criterion.now.kind c.of-first.result c.of.result c.in-Pair.is is (sym c.is_clear.ensures ∙ c.if-not-is_clear.false) later
