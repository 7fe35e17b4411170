use Rattle.std.proofs.Common.{◌≡◌, [], length, drop}
use Rattle.laminate.specs.Schedule.{names_of}
use Rattle.laminate.specs.inside.Listing.{list_names}
use Rattle.laminate.proofs.schedule.plies_of.Given as goal

abbrev pub invariant-loop-name : goal.invariant-loop-name
invariant-loop-name l = record {
  number : length l.listed ≡ length l.yielded;
  left : list_names l.stock l.listed (drop (length l.yielded) (names_of l.word)) ≡ list_names l.stock [] (names_of l.word);
}
