use Rattle.std.proofs.Common.{◌≡◌, drop}
use Rattle.lam_job.specs.Schedule.{items_of}
use Rattle.lam_job.specs.Wall.{placed_plies}
use Rattle.lam_stock.specs.Scale.{scale_of}
use Rattle.lam_judge.specs.inside.Findings.{at_cases}
use Rattle.lam_judge.specs.inside.Judged.{place_verdict}
use Rattle.lam_judge.proofs.coarse.first_of_cases.Given as goal

abbrev pub invariant-loop-number : goal.invariant-loop-number
invariant-loop-number l =
    let wall = items_of l.stock l.layup.plies in
    let of = at_cases (place_verdict (scale_of l.stock) wall) (placed_plies wall) in
    of l.number (drop l.number l.cases) ≡ of 0 l.cases
