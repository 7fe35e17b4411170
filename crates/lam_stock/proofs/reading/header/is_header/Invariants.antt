use Rattle.std.proofs.Common.{◌≡◌, ℕ, ◌<◌}
use Rattle.csv.specs.Records.{fields_of}
use Rattle.lam_stock.specs.Catalogue.{column, column_names, columns_of}
use Rattle.lam_stock.proofs.reading.header.is_header.Given as goal

abbrev pub invariant-loop-k : goal.invariant-loop-k
invariant-loop-k l = (k : ℕ) → k < l.k → column (columns_of (fields_of l.row)) k ≡ column column_names k
