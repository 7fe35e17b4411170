use Rattle.std.proofs.Common.{◌≡◌, sym, ◌∙◌, ap, subst, Some, slice_get}
use Rattle.lam_stock.specs.Stock.{IsStock}
use Rattle.lam_judge.specs.inside.Tables.{criteria}
use Rattle.lam_judge.proofs.tables.Tables.of.Goals as goal

pub each_criteria-requires : goal.each_criteria-requires
each_criteria-requires c = subst (λ items. IsStock items c.scale-scale.result) (sym c.items.ensures.items) c.scale-scale.ensures.stock

pub returns : goal.returns
returns c = record {
  coarse = c.of.ensures.table;
  fine = c.of-2.ensures.table;
  criteria = λ k i is. c.each_criteria.ensures k i (subst (λ items. slice_get items k ≡ Some i) (sym c.items.ensures.items) is) ∙ ap (λ scale. Some (criteria scale i)) c.scale-scale.ensures.value;
}
