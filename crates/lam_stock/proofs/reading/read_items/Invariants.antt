use Rattle.std.proofs.Common.{◌≡◌, ◌≤◌, ◌-◌, length, []}
use Rattle.std.specs.List.{All}
use Rattle.lam_stock.specs.Catalogue.{items_read}
use Rattle.lam_stock.specs.inside.Rows.{IsRowReader, rows_of}
use Rattle.lam_stock.specs.Stock.{HaveNames, WithinLimits}
use Rattle.lam_stock.proofs.reading.read_items.Given as goal

abbrev pub invariant-loop-items : goal.invariant-loop-items
invariant-loop-items l = record {
  reader : IsRowReader l.reader;
  few : length l.items.items ≤ 64;
  limits : All WithinLimits l.items.items;
  names : HaveNames l.items.items;
  meaning : items_read l.items.items (rows_of l.reader) ≡ items_read [] (rows_of l.fn.reader);
}

abbrev pub decreases-loop-items : goal.decreases-loop-items
decreases-loop-items l = 65 - length l.items.items
