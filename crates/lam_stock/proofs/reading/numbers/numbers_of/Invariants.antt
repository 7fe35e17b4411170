use Rattle.std.proofs.Common.{◌≡◌, Some, take, drop, length}
use Rattle.csv.specs.Records.{fields_of}
use Rattle.lam_stock.specs.Catalogue.{columns_of, numbers_of}
use Rattle.lam_stock.proofs.reading.numbers.numbers_of.Given as goal

abbrev pub invariant-loop-k : goal.invariant-loop-k
invariant-loop-k l = record {
  whole : length l.numbers ≡ 15;
  so_far : numbers_of (take l.k (drop 2 (columns_of (fields_of l.row)))) ≡ Some (take l.k l.numbers);
}
