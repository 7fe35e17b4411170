use Rattle.std.proofs.Common.{◌≡◌, refl, sym, ◌∙◌, ap, ℕ, ◌<◌, Some, length, slice_get, arith}
use Rattle.std.proofs.lemmas.List.{length-set}
use Rattle.std.proofs.lemmas.Option.{same_Some, slice_get_read, slice_get_within}
use Rattle.lam_number.specs.declared.fix.Fix.{Fix}
use Rattle.lam_number.specs.inside.FixNumbers.{fix_numbers}
use Rattle.lam_stock.specs.declared.item.Item.{Item}
use Rattle.lam_tsai.specs.declared.criterion.Criterion.{Criterion}
use Rattle.lam_tsai.specs.inside.Values.{criterion}
use Rattle.lam_boxes.proofs.Filled.{filled}
use Rattle.lam_boxes.proofs.tables.each_criterion.Goals as goal

pub loop-k-preserved : goal.loop-k-preserved
loop-k-preserved c =
    let items = c.args.items.now in
    let scale = c.args.scale.now in
    let l = c.loop-k in
    let d = c.index-items-k in
    let here = slice_get_read items (length items) l.k d.result refl c.loop-k-test.true d.is in
    let room : l.k < length l.criteria = omega (arith, l.invariant.size, c.loop-k-test.true, c.requires.few) in
    let So = λ (j : ℕ) (x : Criterion (Fix 60)). (i : Item) × (slice_get items j ≡ Some i) × (x ≡ criterion (fix_numbers 60) scale i) in
    record {
      size = length-set l.criteria l.k c.of.result ∙ l.invariant.size;
      each = λ j i less is. filled So l.criteria l.k c.of.result room
          (λ k x before so. l.invariant.each k so.0 before so.1 ∙ ap Some (sym so.2))
          (λ x so. so.2 ∙ ap (criterion (fix_numbers 60) scale) (same_Some so.0 d.result (sym so.1 ∙ here)) ∙ sym c.of.ensures.value)
          j (criterion (fix_numbers 60) scale i) less (i, is, refl);
    }

pub returns : goal.returns
returns c = λ k i is. let within = slice_get_within c.args.items.now k i is in c.loop-k.invariant.each k i (omega (arith, within)) is
