use Rattle.lam_search.specs.inside.Here.{basis_of}
use Rattle.lam_search.specs.inside.Sights.{LengthsSeen}
use Rattle.lam_search.proofs.seeking.seek_all.Given as goal

abbrev pub invariant-loop-n : goal.invariant-loop-n
invariant-loop-n l = LengthsSeen (basis_of l.design.stock.now l.design.job.now) l.best l.nodes l.n l.at
