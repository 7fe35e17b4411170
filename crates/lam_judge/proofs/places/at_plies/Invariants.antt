use Rattle.std.proofs.Common.{◌≡◌, drop}
use Rattle.lam_job.specs.Schedule.{items_of}
use Rattle.lam_job.specs.Wall.{placed_plies}
use Rattle.lam_stock.specs.Scale.{scale_of}
use Rattle.lam_judge.specs.inside.Findings.{and_then, at_plies}
use Rattle.lam_judge.specs.inside.Loads.{item_verdict}
use Rattle.lam_judge.proofs.places.at_plies.Given as goal

abbrev pub invariant-loop-k : goal.invariant-loop-k
invariant-loop-k l =
    let V = item_verdict (scale_of l.stock) l.loaded in
    let placed = placed_plies (items_of l.stock l.layup.plies) in
    and_then l.found (at_plies V l.loaded.case l.k (drop l.k placed)) ≡ at_plies V l.loaded.case l.fn.from (drop l.fn.from placed)
