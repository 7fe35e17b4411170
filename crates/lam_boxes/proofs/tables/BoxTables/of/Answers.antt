use Rattle.std.proofs.Common.{◌≡◌, sym, ◌∙◌, ap, subst, Some, slice_get, to_z, of_z, w64, rules}
use Rattle.lam_number.specs.inside.FixNumbers.{fix_numbers}
use Rattle.lam_stock.specs.Stock.{IsStock}
use Rattle.lam_job.specs.Partial.{thickest}
use Rattle.lam_tsai.specs.inside.Values.{criterion}
use Rattle.lam_boxes.specs.inside.Extents.{thinnest}
use Rattle.lam_boxes.proofs.tables.BoxTables.of.Goals as goal

pub each_criterion-requires : goal.each_criterion-requires
each_criterion-requires c = subst (λ items. IsStock items c.scale-scale.result) (sym c.items-items.ensures.items) c.scale-scale.ensures.stock

pub returns : goal.returns
returns c =
    let most : to_z w64 (of_z w64 c.thickest.result) ≡ c.thickest.result = search rules in
    let least : to_z w64 (of_z w64 c.thinnest.result) ≡ c.thinnest.result = search rules in
    record {
      stiffnesses = c.of.ensures.table;
      criteria = λ k i is. c.each_criterion.ensures k i (subst (λ items. slice_get items k ≡ Some i) (sym c.items-items.ensures.items) is) ∙ ap (λ scale. Some (criterion (fix_numbers 60) scale i)) c.scale-scale.ensures.value;
      thickest = most ∙ c.thickest.ensures ∙ ap thickest c.items-items.ensures.items;
      thinnest = least ∙ c.thinnest.ensures ∙ ap thinnest c.items-items.ensures.items;
    }
