use Rattle.std.proofs.Common.{◌≡◌, flat_map, take}
use Rattle.lam_job.specs.Schedule.{items_of}
use Rattle.lam_stock.specs.Scale.{scale_of}
use Rattle.lam_judge.specs.inside.Ratios.{case_ratios}
use Rattle.lam_judge.proofs.printing.add_cases.Given as goal

abbrev pub invariant-loop-case : goal.invariant-loop-case
invariant-loop-case l = l.room ≡ record l.initial.room { ratios = flat_map (case_ratios (scale_of l.stock) (items_of l.stock l.layup.plies)) (take l.case-index l.cases) }
