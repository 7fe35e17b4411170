use Rattle.std.proofs.Common.{◌≡◌, ◌-◌}
use Rattle.lam_plate.specs.inside.Formulas.{first_from, rises_from}
use Rattle.lam_plate.proofs.waves.waves_for.Given as goal

abbrev pub invariant-loop-m : goal.invariant-loop-m
invariant-loop-m l =
    first_from (rises_from l.times l.length_square l.width_square) 1902 1
    ≡ first_from (rises_from l.times l.length_square l.width_square) (1903 - l.m) l.m
