use Rattle.std.proofs.Common.{◌≡◌, sym, ◌∙◌, ap, subst, pos, neg_ℤ, ◌≤ℤ◌, ◌≤◌, ℕ, List, map, take, length, slice_get, ◌++◌, [], ◌∷◌, get_or, w64, arith}
use Rattle.std.proofs.lemmas.Int.{to_z-of_z}
use Rattle.std.proofs.lemmas.List.{append-nil, append_assoc, length-append, length-map, length-take, map_more, take_all}
use Rattle.std.proofs.lemmas.Option.{get_or_from_slice_get, slice_get-get_or, slice_get_within}
use Rattle.lam_stock.specs.Scale.{scale_of}
use Rattle.lam_stock.specs.declared.item.ItemNo.{ItemNo}
use Rattle.lam_job.specs.LoadOf.{load_of}
use Rattle.lam_job.specs.Schedule.{items_of}
use Rattle.lam_job.specs.Wall.{placed_plies, wall_thickness}
use Rattle.lam_job.proofs.Listed.{items_of-length}
use Rattle.lam_solve.specs.inside.Solution.{solution}
use Rattle.lam_judge.specs.Printed.{Printed}
use Rattle.lam_judge.specs.inside.Ratios.{ply_ratio}
use Rattle.lam_judge.specs.inside.Scales.{fine}
use Rattle.lam_judge.proofs.PlacedPlies.{placed-length}
use Rattle.lam_judge.proofs.PlyFacts.{inner-stored, inner-within, made-fine, outer-stored, outer-within, placed, placed-is, ratio-is}
use Rattle.lam_judge.proofs.WallsLaid.{fine-laws, laid-wall, thick, thickness-fits}
use Rattle.lam_judge.proofs.printing.add_case.Goals as goal

abbrev first_no : ItemNo
first_no = record { 0 = 0 }

abbrev with_ratios : Printed → List ℕ → Printed
with_ratios p ratios = record p { ratios = ratios }

pub solve_by-strains-requires-clause-wall : goal.solve_by-strains-requires-clause-wall
solve_by-strains-requires-clause-wall c = laid-wall fine-laws c.requires.layup.plies c.requires.fine c.scale-scale.result c.scale-scale.ensures.value

pub loop-k-init : goal.loop-k-init
loop-k-init c = ap (with_ratios c.args.room.now) (sym (append-nil c.args.room.now.ratios))

pub ratio_between-ratio-requires : goal.ratio_between-ratio-requires
ratio_between-ratio-requires c =
    let is = c.requires.layup in
    let k = c.loop-k.k in
    let h = to_z-of_z w64 c.args.layup.now.h (thickness-fits is) in
    let at = ap (λ plies. slice_get plies k) (sym c.items-plies.ensures.items) ∙ slice_get-get_or c.items-plies.result.now k first_no c.loop-k-test.true in
    record {
      made = made-fine is k _ at c.requires.tables c.criteria.ensures;
      short = c.solve_by-strains.ensures.short;
      thick = subst (λ x. pos 1 ≤ℤ x) (sym h) (thick is);
      inner = inner-within is k _ at (h ∙ is.thickness) (inner-stored is k _ at (pos 0));
      outer = outer-within is k _ at (h ∙ is.thickness) (outer-stored is k _ at (pos 0));
    }

pub add-requires : goal.add-requires
add-requires c =
    let wall = items_of c.args.stock.now c.args.layup.now.plies in
    let f = ply_ratio (scale_of c.args.stock.now) wall (load_of c.args.case.now.kind) in
    let front = take c.loop-k.k (placed_plies wall) in
    let is : c.loop-k.room.ratios ≡ c.args.room.now.ratios ++ map f front = ap (λ (p : Printed). p.ratios) c.loop-k.invariant in
    let sum = ap length is ∙ length-append c.args.room.now.ratios (map f front) in
    let a = length-map front f in
    let b = length-take c.loop-k.k (placed_plies wall) in
    let plies = ap length c.items-plies.ensures.items in
    omega (arith, sum, a, b, plies, c.loop-k-test.true, c.requires.room)

pub loop-k-preserved : goal.loop-k-preserved
loop-k-preserved c =
    let is = c.requires.layup in
    let k = c.loop-k.k in
    let wall = items_of c.args.stock.now c.args.layup.now.plies in
    let load = load_of c.args.case.now.kind in
    let f = ply_ratio (scale_of c.args.stock.now) wall load in
    let before = c.args.room.now.ratios in
    let h = to_z-of_z w64 c.args.layup.now.h (thickness-fits is) ∙ is.thickness in
    let at = ap (λ plies. slice_get plies k) (sym c.items-plies.ensures.items) ∙ slice_get-get_or c.items-plies.result.now k first_no c.loop-k-test.true in
    let strains = c.solve_by-strains.ensures.value ∙ (λ i. solution fine (c.requires.fine.wall i) (c.resultants-load.ensures.value i) (c.scale-scale.ensures.value i)) in
    let p = placed is k _ at in
    let there = placed-is is k _ at in
    let ratio : c.ratio_between-ratio.result ≡ f p =
    c.ratio_between-ratio.ensures ∙ ratio-is is k _ at c.requires.tables c.criteria.ensures load c.solve_by-strains.result _ _ _ strains (inner-stored is k _ at (pos 0)) (outer-stored is k _ at (pos 0)) h in
    let front = map f (take k (placed_plies wall)) in
    let more = map_more f (placed_plies wall) k p (slice_get_within (placed_plies wall) k p there) in
    let item : f p ≡ f (get_or (placed_plies wall) k p) = ap f (sym (get_or_from_slice_get (placed_plies wall) k p p there)) in
    c.add.ensures
    ∙ (λ i. with_ratios (c.loop-k.invariant i) ((c.loop-k.invariant i).ratios ++ (ratio ∙ item) i ∷ []))
    ∙ ap (with_ratios c.args.room.now) (append_assoc before front (f (get_or (placed_plies wall) k p) ∷ []) ∙ ap (λ xs. before ++ xs) (sym more))

pub returns : goal.returns
returns c =
    let wall = items_of c.args.stock.now c.args.layup.now.plies in
    let f = ply_ratio (scale_of c.args.stock.now) wall (load_of c.args.case.now.kind) in
    let a = placed-length (neg_ℤ (wall_thickness wall)) wall in
    let b = items_of-length c.args.stock.now c.args.layup.now.plies c.requires.layup.plies.known in
    let plies = ap length c.items-plies.ensures.items in
    let past : length (placed_plies wall) ≤ c.loop-k.k = omega (arith, a, b, plies, c.loop-k-test.false) in
    c.loop-k.invariant ∙ ap (λ xs. with_ratios c.args.room.now (c.args.room.now.ratios ++ map f xs)) (take_all c.loop-k.k (placed_plies wall) past)
