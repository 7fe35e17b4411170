use Rattle.std.proofs.Common.{refl, sym, ◌∙◌, ap, subst, pos, neg_ℤ, ◌≤ℤ◌, length, slice_get, FitsSigned, w64, add-one, arith}
use Rattle.std.proofs.lemmas.Int.{ints, to_z-of_z}
use Rattle.std.proofs.lemmas.Option.{same_Some, slice_get-get_or}
use Rattle.lam_stock.specs.Scale.{scale_of}
use Rattle.lam_stock.specs.declared.item.ItemNo.{ItemNo}
use Rattle.lam_job.specs.JobData.{CaseData}
use Rattle.lam_job.specs.LoadOf.{load_of}
use Rattle.lam_job.specs.Ranges.{IsFactor}
use Rattle.lam_job.specs.Schedule.{items_of}
use Rattle.lam_job.specs.Wall.{placed_plies, wall_thickness}
use Rattle.lam_job.proofs.Listed.{items_of-length}
use Rattle.lam_solve.specs.inside.Formulas.{at_face}
use Rattle.lam_solve.specs.inside.Solution.{solution}
use Rattle.lam_wall.specs.Faces.{faces}
use Rattle.lam_judge.specs.declared.tables.Criteria.{Criteria}
use Rattle.lam_judge.specs.inside.Findings.{at_ply, at_plies}
use Rattle.lam_judge.specs.inside.Judged.{face_strain, place_verdict}
use Rattle.lam_judge.specs.inside.Scales.{coarse}
use Rattle.lam_judge.proofs.CoarsePlies.{ply-settles, within-six}
use Rattle.lam_judge.proofs.PlacedPlies.{inner-face, outer-face, placed-length}
use Rattle.lam_judge.proofs.PlacesWalked.{plies-none, plies-one}
use Rattle.lam_judge.proofs.PlyFacts.{criteria-is, few-items, first-stored, made-coarse, outer-stored, outer-within, placed, placed-is}
use Rattle.lam_judge.proofs.Walked.{all-passed, passed, stopped}
use Rattle.lam_judge.proofs.WallsLaid.{coarse-laws, laid-wall, thick, thickness-fits}
use Rattle.lam_judge.proofs.coarse.first_of_case.Goals as goal

abbrev first_no : ItemNo
first_no = record { 0 = 0 }

pub solve_by-strains-requires-clause-wall : goal.solve_by-strains-requires-clause-wall
solve_by-strains-requires-clause-wall c = laid-wall coarse-laws c.requires.layup.plies c.requires.laid c.scale-scale.result c.scale-scale.ensures.value

pub at_face-inner-requires : goal.at_face-inner-requires
at_face-inner-requires c =
    let is = c.requires.layup in
    let h = to_z-of_z w64 c.args.layup.now.h (thickness-fits is) in
    let first = first-stored is (pos 0) in
    record {
      thick = subst (λ x. pos 1 ≤ℤ x) (sym h) (thick is);
      inner = omega (arith, ints, first, h, is.thickness);
      outer = omega (arith, ints, first, h, is.thickness, thick is);
      strains = c.solve_by-strains.ensures.short;
    }

pub criteria-requires : goal.criteria-requires
criteria-requires c =
    let k = c.loop-k.k in
    let at = ap (λ plies. slice_get plies k) (sym c.items-plies.ensures.items) ∙ slice_get-get_or c.items-plies.result.now k first_no c.loop-k-test.true in
    few-items c.requires.layup k _ at

pub at_face-outer-requires : goal.at_face-outer-requires
at_face-outer-requires c =
    let is = c.requires.layup in
    let k = c.loop-k.k in
    let h = to_z-of_z w64 c.args.layup.now.h (thickness-fits is) in
    let at = ap (λ plies. slice_get plies k) (sym c.items-plies.ensures.items) ∙ slice_get-get_or c.items-plies.result.now k first_no c.loop-k-test.true in
    let within = outer-within is k _ at (h ∙ is.thickness) (outer-stored is k _ at (pos 0)) in
    record {
      thick = subst (λ x. pos 1 ≤ℤ x) (sym h) (thick is);
      inner = within.inner;
      outer = within.outer;
      strains = c.solve_by-strains.ensures.short;
    }

pub first_of_ply-found-requires : goal.first_of_ply-found-requires
first_of_ply-found-requires c =
    let is = c.requires.layup in
    let k = c.loop-k.k in
    let at = ap (λ plies. slice_get plies k) (sym c.items-plies.ensures.items) ∙ slice_get-get_or c.items-plies.result.now k first_no c.loop-k-test.true in
    let asked = c.case.invariant.factor in
    let fits : FitsSigned w64 c.case.inside.factor = omega (arith, ints, asked.least, asked.greatest) in
    record {
      made = made-coarse is k _ at c.requires.tables c.criteria.ensures;
      inner = c.loop-k.invariant.six;
      outer = within-six c.at_face-outer.ensures.reach;
      factor = subst IsFactor (sym (to_z-of_z w64 c.case.inside.factor fits)) asked;
    }

pub loop-k-init : goal.loop-k-init
loop-k-init c =
    let is = c.requires.layup in
    let stock = c.args.stock.now in
    let wall = items_of stock c.args.layup.now.plies in
    let h = to_z-of_z w64 c.args.layup.now.h (thickness-fits is) ∙ is.thickness in
    let strains = c.solve_by-strains.ensures.value ∙ (λ i. solution coarse (c.requires.laid.wall i) (c.resultants-load.ensures.value i) (c.scale-scale.ensures.value i)) in
    record {
      passed = refl;
      strain = λ z e.
          c.at_face-inner.ensures.value
          ∙ (λ i. at_face coarse.calc (strains i) (first-stored is (pos 0) i) (h i))
          ∙ ap (face_strain coarse (scale_of stock) wall (load_of c.args.case.now.kind)) (same_Some (neg_ℤ (wall_thickness wall)) z e);
      six = within-six c.at_face-inner.ensures.reach;
    }

pub returns-then-not-is_clear : goal.returns-then-not-is_clear
returns-then-not-is_clear c =
    let is = c.requires.layup in
    let stock = c.args.stock.now in
    let wall = items_of stock c.args.layup.now.plies in
    let k = c.loop-k.k in
    let V = place_verdict (scale_of stock) wall c.args.case.now in
    let number = c.args.number in
    let at = ap (λ plies. slice_get plies k) (sym c.items-plies.ensures.items) ∙ slice_get-get_or c.items-plies.result.now k first_no c.loop-k-test.true in
    let h = to_z-of_z w64 c.args.layup.now.h (thickness-fits is) ∙ is.thickness in
    let strains = c.solve_by-strains.ensures.value ∙ (λ i. solution coarse (c.requires.laid.wall i) (c.resultants-load.ensures.value i) (c.scale-scale.ensures.value i)) in
    let asked = c.case.invariant.factor in
    let fits : FitsSigned w64 c.case.inside.factor = omega (arith, ints, asked.least, asked.greatest) in
    let factor = to_z-of_z w64 c.case.inside.factor fits ∙ ap (λ (x : CaseData). x.factor) c.case.view_is in
    let p = placed is k _ at in
    let there = placed-is is k _ at in
    let settles = ply-settles (scale_of stock) wall c.args.case.now p number k (ap (λ (x : Criteria). x.coarse) (criteria-is is k _ at c.requires.tables c.criteria.ensures))
    (c.loop-k.invariant.strain p.inner (inner-face wall k p there))
    (c.at_face-outer.ensures.value ∙ (λ i. at_face coarse.calc (strains i) (outer-stored is k _ at (pos 0) i) (h i)))
    factor c.first_of_ply-found.result c.first_of_ply-found.ensures in
    stopped (at_plies V number) (λ k p. at_ply number k p.item.kind (V p)) (plies-none V number) (plies-one V number) (placed_plies wall)
    _ k p c.first_of_ply-found.result there settles (sym c.is_clear.ensures ∙ c.if-not-is_clear.true) c.loop-k.invariant.passed

pub loop-k-preserved : goal.loop-k-preserved
loop-k-preserved c =
    let is = c.requires.layup in
    let stock = c.args.stock.now in
    let wall = items_of stock c.args.layup.now.plies in
    let k = c.loop-k.k in
    let V = place_verdict (scale_of stock) wall c.args.case.now in
    let number = c.args.number in
    let at = ap (λ plies. slice_get plies k) (sym c.items-plies.ensures.items) ∙ slice_get-get_or c.items-plies.result.now k first_no c.loop-k-test.true in
    let h = to_z-of_z w64 c.args.layup.now.h (thickness-fits is) ∙ is.thickness in
    let strains = c.solve_by-strains.ensures.value ∙ (λ i. solution coarse (c.requires.laid.wall i) (c.resultants-load.ensures.value i) (c.scale-scale.ensures.value i)) in
    let asked = c.case.invariant.factor in
    let fits : FitsSigned w64 c.case.inside.factor = omega (arith, ints, asked.least, asked.greatest) in
    let factor = to_z-of_z w64 c.case.inside.factor fits ∙ ap (λ (x : CaseData). x.factor) c.case.view_is in
    let p = placed is k _ at in
    let there = placed-is is k _ at in
    let outer = c.at_face-outer.ensures.value ∙ (λ i. at_face coarse.calc (strains i) (outer-stored is k _ at (pos 0) i) (h i)) in
    let settles = ply-settles (scale_of stock) wall c.args.case.now p number k (ap (λ (x : Criteria). x.coarse) (criteria-is is k _ at c.requires.tables c.criteria.ensures))
    (c.loop-k.invariant.strain p.inner (inner-face wall k p there)) outer
    factor c.first_of_ply-found.result c.first_of_ply-found.ensures in
    record {
      passed = passed (at_plies V number) (λ k p. at_ply number k p.item.kind (V p)) (plies-none V number) (plies-one V number) (placed_plies wall)
          _ k p c.first_of_ply-found.result there settles (sym c.is_clear.ensures ∙ c.if-not-is_clear.false) c.loop-k.invariant.passed;
      strain = λ z e. outer ∙ ap (face_strain coarse (scale_of stock) wall (load_of c.args.case.now.kind)) (same_Some p.outer z (sym (ap (slice_get (faces wall)) (add-one k) ∙ outer-face wall k p there) ∙ e));
      six = within-six c.at_face-outer.ensures.reach;
    }

pub returns : goal.returns
returns c =
    let wall = items_of c.args.stock.now c.args.layup.now.plies in
    let V = place_verdict (scale_of c.args.stock.now) wall c.args.case.now in
    let number = c.args.number in
    let a = placed-length (neg_ℤ (wall_thickness wall)) wall in
    let b = items_of-length c.args.stock.now c.args.layup.now.plies c.requires.layup.plies.known in
    let d = ap length c.items-plies.ensures.items in
    all-passed (at_plies V number) (λ k p. at_ply number k p.item.kind (V p)) (plies-none V number) (plies-one V number) (placed_plies wall) _ c.loop-k.k (omega (arith, a, b, d, c.loop-k-test.false)) c.loop-k.invariant.passed
