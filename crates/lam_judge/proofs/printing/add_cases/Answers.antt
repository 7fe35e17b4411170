use Rattle.std.proofs.Common.{◌≡◌, sym, ◌∙◌, ap, subst, neg_ℤ, ◌<◌, ◌≤◌, ◌+◌, ◌*◌, ℕ, suc, List, flat_map, take, length, get_or, ◌++◌, [], arith}
use Rattle.std.proofs.Math.Nat.{mul-le-mul}
use Rattle.std.proofs.lemmas.List.{flat_map_more, length-map, length-take, take_all, take_more}
use Rattle.std.proofs.lemmas.List.Elements.{All-get_or}
use Rattle.lam_stock.specs.Scale.{scale_of}
use Rattle.lam_job.specs.JobData.{CaseData}
use Rattle.lam_job.specs.LoadOf.{load_of}
use Rattle.lam_job.specs.LoadRange.{LoadInRange}
use Rattle.lam_job.specs.Schedule.{items_of}
use Rattle.lam_job.specs.Wall.{placed_plies, wall_thickness}
use Rattle.lam_job.proofs.Listed.{items_of-length}
use Rattle.lam_judge.specs.Printed.{Printed}
use Rattle.lam_judge.specs.inside.Ratios.{case_ratios, ply_ratio}
use Rattle.lam_judge.proofs.PlacedPlies.{placed-length}
use Rattle.lam_judge.proofs.truth.PrintedTruth.{flat-length}
use Rattle.lam_judge.proofs.printing.add_cases.Goals as goal

abbrev with_ratios : Printed → List ℕ → Printed
with_ratios p ratios = record p { ratios = ratios }

room : (k n cases : ℕ) → k < cases → cases ≤ 16 → n ≤ 64 → k * n + n ≤ 1024
room k n cases less few short =
    let first : suc k ≤ 16 = omega (arith, less, few) in
    let most : suc k * n ≤ 16 * 64 = mul-le-mul first short in
    let sum : suc k * n ≡ k * n + n = omega arith in
    omega (arith, most, sum)

pub loop-case-init : goal.loop-case-init
loop-case-init c = ap (with_ratios c.args.room.now) c.requires.none

pub add_case-requires : goal.add_case-requires
add_case-requires c =
    let scale = scale_of c.args.stock.now in
    let plies = c.args.layup.now.plies in
    let wall = items_of c.args.stock.now plies in
    let f = case_ratios scale wall in
    let d = c.case-item in
    let k = c.loop-case.case-index in
    let InRange = λ (x : CaseData). LoadInRange scale.floor c.args.layup.now.h (load_of x.kind) in
    let each : (x : CaseData) → length (f x) ≡ length plies
    = λ x. length-map (placed_plies wall) (ply_ratio scale wall (load_of x.kind)) ∙ placed-length (neg_ℤ (wall_thickness wall)) wall ∙ items_of-length c.args.stock.now plies c.requires.layup.plies.known in
    let is = ap (λ (p : Printed). length p.ratios) c.loop-case.invariant ∙ flat-length f (length plies) each (take k c.args.cases.now) in
    let front : length (take k c.args.cases.now) ≡ k = let t = length-take k c.args.cases.now in omega (arith, t, c.loop-case-test.true) in
    let most = room k (length plies) (length c.args.cases.now) c.loop-case-test.true c.requires.few c.requires.layup.plies.few in
    record {
      tables = c.requires.tables;
      layup = c.requires.layup;
      fine = c.requires.fine;
      range = subst InRange (sym d.is) (All-get_or InRange c.args.cases.now k d.result c.loop-case-test.true c.requires.range);
      room = subst (λ n. n + length plies ≤ 1024) (sym (is ∙ ap (λ n. n * length plies) front)) most;
    }

pub loop-case-preserved : goal.loop-case-preserved
loop-case-preserved c =
    let f = case_ratios (scale_of c.args.stock.now) (items_of c.args.stock.now c.args.layup.now.plies) in
    let d = c.case-item in
    let k = c.loop-case.case-index in
    let cases = c.args.cases.now in
    let so_far = flat_map f (take k cases) in
    c.add_case.ensures
    ∙ (λ i. with_ratios (c.loop-case.invariant i) ((c.loop-case.invariant i).ratios ++ f (d.is i)))
    ∙ ap (with_ratios c.args.room.now) (flat_map_more f [] (take k cases) (get_or cases k d.result) ∙ ap (flat_map f) (sym (take_more cases k d.result c.loop-case-test.true)))

pub returns : goal.returns
returns c =
    let f = case_ratios (scale_of c.args.stock.now) (items_of c.args.stock.now c.args.layup.now.plies) in
    c.loop-case.invariant ∙ ap (λ xs. with_ratios c.args.room.now (flat_map f xs)) (take_all c.loop-case.case-index c.args.cases.now c.loop-case-test.false)
