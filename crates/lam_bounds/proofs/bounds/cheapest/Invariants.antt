use Rattle.std.proofs.Common.{◌≡◌, take, fold, min}
use Rattle.lam_bounds.proofs.bounds.cheapest.Given as goal

abbrev pub invariant-loop-item : goal.invariant-loop-item
invariant-loop-item l = l.least ≡ fold (λ least other. min least other.cost) l.initial.least (take l.item-index l.items)
