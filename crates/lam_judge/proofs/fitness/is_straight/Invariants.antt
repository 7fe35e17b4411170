use Rattle.std.proofs.Common.{take, All}
use Rattle.lam_job.specs.Rules.{IsSlanted}
use Rattle.lam_job.specs.Schedule.{items_of}
use Rattle.lam_judge.proofs.fitness.is_straight.Given as goal

abbrev pub invariant-loop-ply : goal.invariant-loop-ply
invariant-loop-ply l = All (λ i. ¬ IsSlanted i) (items_of l.stock (take l.ply-index l.plies))
