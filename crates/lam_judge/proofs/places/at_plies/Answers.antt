use Rattle.std.proofs.Common.{sym, ◌∙◌, ap, pos, neg_ℤ, length, drop, slice_get, arith}
use Rattle.std.proofs.lemmas.Option.{slice_get-get_or}
use Rattle.lam_job.specs.Schedule.{items_of}
use Rattle.lam_job.specs.Wall.{placed_plies, wall_thickness}
use Rattle.lam_job.proofs.Listed.{items_of-length}
use Rattle.lam_stock.specs.Scale.{scale_of}
use Rattle.lam_stock.specs.declared.item.ItemNo.{ItemNo}
use Rattle.lam_judge.specs.inside.Findings.{at_ply, at_plies}
use Rattle.lam_judge.specs.inside.Loads.{item_verdict}
use Rattle.lam_judge.proofs.PlacedPlies.{placed-length}
use Rattle.lam_judge.proofs.PlacesWalked.{plies-none, plies-one}
use Rattle.lam_judge.proofs.PlyFacts.{found-is, inner-stored, inner-within, outer-stored, outer-within, placed, placed-is, ready}
use Rattle.lam_judge.proofs.Walked.{all, more, settled}
use Rattle.lam_judge.proofs.places.at_plies.Goals as goal

abbrev first_no : ItemNo
first_no = record { 0 = 0 }

pub loop-k-init : goal.loop-k-init
loop-k-init c =
    let V = item_verdict (scale_of c.args.stock.now) c.args.loaded.now in
    let plies = placed_plies (items_of c.args.stock.now c.args.layup.now.plies) in
    ap (λ k. at_plies V c.args.loaded.now.case k (drop k plies)) c.from-k.ensures

pub at_ply-ply-requires : goal.at_ply-ply-requires
at_ply-ply-requires c =
    let is = c.requires.layup in
    let k = c.loop-k.k in
    let at = ap (λ plies. slice_get plies k) (sym c.items-plies.ensures.items) ∙ slice_get-get_or c.items-plies.result.now k first_no c.loop-k-test.true in
    record {
      ready = ready is k _ at c.requires.tables c.criteria-criteria.ensures c.requires.borne;
      inner = inner-within is k _ at c.requires.borne.thickness (inner-stored is k _ at (pos 0));
      outer = outer-within is k _ at c.requires.borne.thickness (outer-stored is k _ at (pos 0));
    }

pub returns-then-is_settled : goal.returns-then-is_settled
returns-then-is_settled c =
    let is = c.requires.layup in
    let k = c.loop-k.k in
    let V = item_verdict (scale_of c.args.stock.now) c.args.loaded.now in
    let case = c.args.loaded.now.case in
    let at = ap (λ plies. slice_get plies k) (sym c.items-plies.ensures.items) ∙ slice_get-get_or c.items-plies.result.now k first_no c.loop-k-test.true in
    let ply = c.at_ply-ply.ensures ∙ found-is is k _ at c.requires.tables c.criteria-criteria.ensures c.args.loaded.now case _ _ (inner-stored is k _ at (pos 0)) (outer-stored is k _ at (pos 0)) in
    settled (at_plies V case) (λ k p. at_ply case k p.item.kind (V p)) (plies-none V case) (plies-one V case) (placed_plies (items_of c.args.stock.now c.args.layup.now.plies))
    _ c.loop-k.found c.then-found.result k (placed is k _ at) c.at_ply-ply.result (placed-is is k _ at) ply c.loop-k.invariant c.then-found.ensures (sym c.is_settled.ensures ∙ c.if-is_settled.true)

pub loop-k-preserved : goal.loop-k-preserved
loop-k-preserved c =
    let is = c.requires.layup in
    let k = c.loop-k.k in
    let V = item_verdict (scale_of c.args.stock.now) c.args.loaded.now in
    let case = c.args.loaded.now.case in
    let at = ap (λ plies. slice_get plies k) (sym c.items-plies.ensures.items) ∙ slice_get-get_or c.items-plies.result.now k first_no c.loop-k-test.true in
    let ply = c.at_ply-ply.ensures ∙ found-is is k _ at c.requires.tables c.criteria-criteria.ensures c.args.loaded.now case _ _ (inner-stored is k _ at (pos 0)) (outer-stored is k _ at (pos 0)) in
    more (at_plies V case) (λ k p. at_ply case k p.item.kind (V p)) (plies-none V case) (plies-one V case) (placed_plies (items_of c.args.stock.now c.args.layup.now.plies))
    _ c.loop-k.found c.then-found.result k (placed is k _ at) c.at_ply-ply.result (placed-is is k _ at) ply c.loop-k.invariant c.then-found.ensures

pub returns : goal.returns
returns c =
    let wall = items_of c.args.stock.now c.args.layup.now.plies in
    let V = item_verdict (scale_of c.args.stock.now) c.args.loaded.now in
    let case = c.args.loaded.now.case in
    let a = placed-length (neg_ℤ (wall_thickness wall)) wall in
    let b = items_of-length c.args.stock.now c.args.layup.now.plies c.requires.layup.plies.known in
    let d = ap length c.items-plies.ensures.items in
    all (at_plies V case) (λ k p. at_ply case k p.item.kind (V p)) (plies-none V case) (plies-one V case) (placed_plies wall) _ c.loop-k.found c.loop-k.k (omega (arith, a, b, d, c.loop-k-test.false)) c.loop-k.invariant
