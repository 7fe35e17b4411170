use Rattle.std.proofs.Common.{◌≡◌, ℕ, ◌+◌, ◌*◌, ◌<◌, ◌≤◌, length, Some, slice_get, slice_index}
use Rattle.lam_bounds.specs.declared.bounds.Tried.{Tried}
use Rattle.lam_bounds.proofs.fixed.Fixed.add.Given as goal

abbrev pub invariant-loop-k : goal.invariant-loop-k
invariant-loop-k l = record {
  cost : l.self.cost ≡ l.initial.self.cost;
  places : l.self.open_places ≡ l.initial.self.open_places;
  long : length l.self.carried ≡ 12;
  first : length l.initial.self.carried ≡ 12;
  done : (j : ℕ) (t : Tried) → j < l.k → slice_get l.bounds.tried j ≡ Some t
      → slice_index l.self.carried j ≡ slice_index l.initial.self.carried j + l.places * slice_index t.carriers.capacities l.item.0;
  rest : (j : ℕ) → l.k ≤ j → slice_index l.self.carried j ≡ slice_index l.initial.self.carried j;
}
