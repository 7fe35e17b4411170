use Rattle.std.proofs.Common.{◌≡◌, refl, sym, ◌∙◌, ap, ℕ, ◌<◌, Some, length, slice_get, arith}
use Rattle.std.proofs.lemmas.List.{length-set}
use Rattle.std.proofs.lemmas.Option.{same_Some, slice_get_read, slice_get_within}
use Rattle.lam_stock.specs.declared.item.Item.{Item}
use Rattle.lam_judge.specs.declared.tables.Criteria.{Criteria}
use Rattle.lam_judge.specs.inside.Tables.{criteria}
use Rattle.lam_judge.proofs.Filled.{filled}
use Rattle.lam_judge.proofs.tables.each_criteria.Goals as goal

pub loop-k-preserved : goal.loop-k-preserved
loop-k-preserved c =
    let items = c.args.items.now in
    let scale = c.args.scale.now in
    let l = c.loop-k in
    let d = c.index-items-k in
    let here = slice_get_read items (length items) l.k d.result refl c.loop-k-test.true d.is in
    let room : l.k < length l.criteria = omega (arith, l.invariant.size, c.loop-k-test.true, c.requires.few) in
    let So = λ (j : ℕ) (x : Criteria). (i : Item) × (slice_get items j ≡ Some i) × (x ≡ criteria scale i) in
    record {
      size = length-set l.criteria l.k c.of.result ∙ l.invariant.size;
      each = λ j i less is. filled So l.criteria l.k c.of.result room
          (λ k x before so. l.invariant.each k so.0 before so.1 ∙ ap Some (sym so.2))
          (λ x so. so.2 ∙ ap (criteria scale) (same_Some so.0 d.result (sym so.1 ∙ here)) ∙ sym c.of.ensures)
          j (criteria scale i) less (i, is, refl);
    }

pub returns : goal.returns
returns c = λ k i is. let within = slice_get_within c.args.items.now k i is in c.loop-k.invariant.each k i (omega (arith, within)) is
