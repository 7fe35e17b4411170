use Rattle.std.proofs.Common.{refl, sym, ◌∙◌, ap, subst, pos, ◌≤ℤ◌, FitsSigned, w64, arith}
use Rattle.std.proofs.lemmas.Int.{ints, to_z-of_z}
use Rattle.lam_job.specs.Ranges.{IsFactor}
use Rattle.lam_solve.specs.inside.Solution.{solution}
use Rattle.lam_judge.specs.inside.Scales.{coarse, fine}
use Rattle.lam_judge.proofs.WallsLaid.{coarse-laws, fine-laws, laid-wall, thick, thickness-fits, thin}
use Rattle.lam_judge.proofs.loaded.Loaded.of.Goals as goal

pub solve_by-requires-clause-wall : goal.solve_by-requires-clause-wall
solve_by-requires-clause-wall c = laid-wall coarse-laws c.requires.layup.plies c.requires.coarse c.scale-scale.result c.scale-scale.ensures.value

pub solve_by-requires-2-clause-wall : goal.solve_by-requires-2-clause-wall
solve_by-requires-2-clause-wall c = laid-wall fine-laws c.requires.layup.plies c.requires.fine c.scale-scale.result c.scale-scale.ensures.value

pub returns : goal.returns
returns c =
    let is = c.requires.layup in
    let asked = c.case.invariant.factor in
    let fits : FitsSigned w64 c.case.inside.factor = omega (arith, ints, asked.least, asked.greatest) in
    let factor = to_z-of_z w64 c.case.inside.factor fits in
    let h = to_z-of_z w64 c.args.layup.now.h (thickness-fits is) in
    record {
      borne = record {
        asked = subst IsFactor (sym factor) asked;
        thickness = h ∙ is.thickness;
        thick = subst (λ x. pos 1 ≤ℤ x) (sym h) (thick is);
        thin = subst (λ x. x ≤ℤ pos 1280000) (sym h) (thin is);
        coarse_short = c.solve_by.ensures.short;
        fine_short = c.solve_by-2.ensures.short;
      };
      case_is = refl;
      factor = factor ∙ ap (λ x. x.factor) c.case.view_is;
      coarse_is = c.solve_by.ensures.value ∙ (λ i. solution coarse (c.requires.coarse.wall i) (c.resultants-load.ensures.value i) (c.scale-scale.ensures.value i));
      fine_is = c.solve_by-2.ensures.value ∙ (λ i. solution fine (c.requires.fine.wall i) (c.resultants-load.ensures.value i) (c.scale-scale.ensures.value i));
    }
