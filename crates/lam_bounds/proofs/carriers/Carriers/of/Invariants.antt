use Rattle.std.proofs.Common.{take}
use Rattle.lam_bounds.specs.inside.Computed.{capacity_value}
use Rattle.lam_bounds.specs.inside.Tables.{AreCarriers}
use Rattle.lam_bounds.proofs.carriers.Carriers.of.Given as goal

abbrev pub invariant-loop-k : goal.invariant-loop-k
invariant-loop-k l = AreCarriers (λ i. capacity_value i l.w) (take l.k l.items) l.carriers
