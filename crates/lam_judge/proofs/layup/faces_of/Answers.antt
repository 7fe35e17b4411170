use Rattle.std.proofs.Common.{◌≡◌, sym, ◌∙◌, ap, neg_ℤ, ◌<◌, length, slice_get, Some, w64, arith}
use Rattle.std.proofs.lemmas.Int.{to_z-of_z}
use Rattle.std.proofs.lemmas.List.{length-set, length-map}
use Rattle.std.proofs.lemmas.Option.{same_Some, slice_get_within}
use Rattle.lam_job.specs.Schedule.{items_of}
use Rattle.lam_job.specs.Wall.{placed_plies, wall_thickness}
use Rattle.lam_job.proofs.Listed.{items_of-length}
use Rattle.lam_wall.specs.Faces.{faces}
use Rattle.lam_judge.proofs.Filled.{filled}
use Rattle.lam_judge.proofs.PlacedPlies.{placed-length}
use Rattle.lam_judge.proofs.layup.faces_of.Goals as goal

pub loop-k-preserved : goal.loop-k-preserved
loop-k-preserved c =
    let l = c.loop-k in
    let wall = items_of c.args.stock.now c.args.plies.now in
    let v = c.face.result in
    let same = to_z-of_z w64 v (record { sfits = c.face.type_inv }) in
    let room : l.k < length l.faces = omega (arith, l.invariant.size, c.loop-k-test.true, c.items.ensures.few) in
    record {
      size = length-set l.faces l.k _ ∙ l.invariant.size;
      each = λ j z less is. filled (λ k x. slice_get (faces wall) k ≡ Some x) l.faces l.k _ room l.invariant.each (λ x so. same_Some x v (sym so ∙ c.face.ensures.value) ∙ sym same) j z less is;
    }

pub returns : goal.returns
returns c = λ k z is.
    let wall = items_of c.args.stock.now c.args.plies.now in
    let within = slice_get_within (faces wall) k z is in
    let outer = length-map (placed_plies wall) (λ p. p.outer) in
    let placed = placed-length (neg_ℤ (wall_thickness wall)) wall in
    let items = items_of-length c.args.stock.now c.args.plies.now c.requires.known in
    let plies = ap length c.items.ensures.items in
    c.loop-k.invariant.each k z (omega (arith, within, outer, placed, items, plies, c.loop-k-test.false)) is
