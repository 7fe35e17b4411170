use Rattle.std.proofs.Common.{refl}
use Rattle.lam_stock.proofs.limits.keeps_poisson.Goals as goal

pub returns : goal.returns
returns c = rw (← c.size-e1.ensures.value, ← c.size-e2.ensures.value, ← c.size-n12.ensures.value) refl
