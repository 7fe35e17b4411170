use Rattle.std.proofs.Common.{◌≡◌, ◌++◌, ◌-◌, ◌*◌, ◌≤◌, string_bytes}
use Rattle.lam_sample.specs.Draws.{steps}
use Rattle.lam_sample.specs.inside.CatalogueText.{lines_after, stock_text}
use Rattle.lam_sample.proofs.catalogue.records.Given as goal

abbrev pub invariant-loop-number : goal.invariant-loop-number
invariant-loop-number l = record {
  least : 1 ≤ l.number;
  most : l.number ≤ 7;
  text : string_bytes l.text ++ lines_after (7 - l.number) l.number l.draws ≡ stock_text l.fn.draws;
  state : l.draws ≡ steps (11 * (l.number - 1)) l.fn.draws;
}
