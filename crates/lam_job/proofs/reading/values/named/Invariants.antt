use Rattle.std.proofs.Common.{◌≡◌, ◌++◌, map, drop, length, filter_map}
use Rattle.std.specs.List.{list_all}
use Rattle.std.specs.Option.{is_some}
use Rattle.toml.specs.View.{view}
use Rattle.lam_stock.specs.Stock.{IsKnown}
use Rattle.lam_job.specs.JobOf.{item_of}
use Rattle.lam_job.proofs.reading.values.named.Given as goal

abbrev pub invariant-loop-name : goal.invariant-loop-name
invariant-loop-name l = record {
  all : list_all (λ d. is_some (item_of l.stock d)) (map view (drop l.name-index l.names)) ≡ list_all (λ d. is_some (item_of l.stock d)) (map view l.names);
  items : l.items ++ filter_map (item_of l.stock) (map view (drop l.name-index l.names)) ≡ filter_map (item_of l.stock) (map view l.names);
  number : length l.items ≡ l.name-index;
  known : IsKnown l.stock l.items;
}
