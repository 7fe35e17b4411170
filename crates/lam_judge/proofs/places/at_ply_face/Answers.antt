use Rattle.std.proofs.Common.{sym, ◌∙◌, ap, ℤ, w64}
use Rattle.std.proofs.lemmas.Int.{to_z-of_z}
use Rattle.lam_fraction.proofs.numbers.Machine.{stored-64}
use Rattle.lam_solve.specs.inside.Formulas as solve
use Rattle.lam_stock.specs.declared.item.Kind.{Kind}
use Rattle.lam_tsai.specs.declared.place.Place.{Place}
use Rattle.lam_tsai.specs.declared.place.Side.{Side}
use Rattle.lam_tsai.specs.declared.place.Side.TheVariants.{Plus, Minus}
use Rattle.lam_judge.specs.inside.Findings.{and_then, at_face, found}
use Rattle.lam_judge.specs.inside.Loads.{loaded_verdict}
use Rattle.lam_judge.specs.inside.Scales.{coarse}
use Rattle.lam_judge.proofs.TwoScales.{thickness-stored}
use Rattle.lam_judge.proofs.places.at_ply_face.Goals as goal

pub at_place-first-requires-clause-coarse : goal.at_place-first-requires-clause-coarse
at_place-first-requires-clause-coarse c =
    c.at_face-coarse.ensures.value ∙ ap (solve.at_face coarse.calc c.args.loaded.now.coarse (stored-64 c.args.z)) (thickness-stored c.requires.ready)

pub at_place-requires-clause-coarse : goal.at_place-requires-clause-coarse
at_place-requires-clause-coarse c =
    c.at_face-coarse.ensures.value ∙ ap (solve.at_face coarse.calc c.args.loaded.now.coarse (stored-64 c.args.z)) (thickness-stored c.requires.ready)

pub returns-in-Ply : goal.returns-in-Ply
returns-in-Ply c =
    let a = c.args in
    let l = a.loaded.now in
    let z = to_z-of_z w64 a.z c.ranges.z in
    let plus : Place = record { case = l.case; ply = a.ply; face = a.face; side = Plus } in
    c.at_place-first.ensures
    ∙ ap (λ (x : ℤ). found (loaded_verdict a.criteria.now l x Plus) plus) z
    ∙ ap (λ (k : Kind). at_face l.case a.ply k (λ (side : Side). loaded_verdict a.criteria.now l a.z side) a.face) (sym c.in-Ply.is)

pub returns-in-Pair : goal.returns-in-Pair
returns-in-Pair c =
    let a = c.args in
    let l = a.loaded.now in
    let z = to_z-of_z w64 a.z c.ranges.z in
    let plus : Place = record { case = l.case; ply = a.ply; face = a.face; side = Plus } in
    let minus : Place = record { case = l.case; ply = a.ply; face = a.face; side = Minus } in
    let first = c.at_place-first.ensures ∙ ap (λ (x : ℤ). found (loaded_verdict a.criteria.now l x Plus) plus) z in
    let second = c.at_place.ensures ∙ ap (λ (x : ℤ). found (loaded_verdict a.criteria.now l x Minus) minus) z in
    c.then.ensures
    ∙ (λ i. and_then (first i) (second i))
    ∙ ap (λ (k : Kind). at_face l.case a.ply k (λ (side : Side). loaded_verdict a.criteria.now l a.z side) a.face) (sym c.in-Pair.is)
