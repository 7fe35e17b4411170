use Rattle.std.proofs.Common.{◌∙◌, subst, ◌≤◌, List, length, w64}
use Rattle.std.proofs.lemmas.Int.{to_z-of_z}
use Rattle.lam_stock.specs.Stock.{IsStock}
use Rattle.lam_stock.specs.declared.item.ItemNo.{ItemNo}
use Rattle.lam_judge.proofs.layup.Layup.of.Goals as goal

pub returns-clause-layup : goal.returns-clause-layup
returns-clause-layup c = record {
  plies = record {
    catalogue = subst (IsStock c.args.stock.now) c.scale-scale.ensures.value c.scale-scale.ensures.stock;
    some = c.requires.some;
    few = subst (λ (xs : List ItemNo). length xs ≤ 64) c.items-plies.ensures.items c.items-plies.ensures.few;
    known = c.requires.known;
  };
  thickness = to_z-of_z w64 c.thickness.result (record { sfits = c.thickness.type_inv }) ∙ c.thickness.ensures.value;
  faces = c.faces_of.ensures;
}
