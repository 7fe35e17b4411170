use Rattle.std.proofs.Common.{◌≡◌, ◌++◌, take}
use Rattle.lam_wall.proofs.plies.wall_plies.Given as goal

abbrev pub invariant-loop-ply : goal.invariant-loop-ply
invariant-loop-ply l = l.plies ≡ l.job.liner ++ take l.ply-index l.listed
