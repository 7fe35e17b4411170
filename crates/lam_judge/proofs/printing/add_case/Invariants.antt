use Rattle.std.proofs.Common.{◌≡◌, ◌++◌, map, take}
use Rattle.lam_job.specs.LoadOf.{load_of}
use Rattle.lam_job.specs.Schedule.{items_of}
use Rattle.lam_job.specs.Wall.{placed_plies}
use Rattle.lam_stock.specs.Scale.{scale_of}
use Rattle.lam_judge.specs.inside.Ratios.{ply_ratio}
use Rattle.lam_judge.proofs.printing.add_case.Given as goal

abbrev pub invariant-loop-k : goal.invariant-loop-k
invariant-loop-k l =
    let wall = items_of l.stock l.layup.plies in
    l.room ≡ record l.initial.room { ratios = l.initial.room.ratios ++ map (ply_ratio (scale_of l.stock) wall (load_of l.case.kind)) (take l.k (placed_plies wall)) }
