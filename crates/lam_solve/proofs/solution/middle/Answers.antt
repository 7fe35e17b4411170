use Rattle.std.proofs.Common.{refl, ◌*◌, ◌^◌}
use Rattle.lam_fraction.proofs.numbers.Machine.{at_most, size_at_most, sized_stored-128, sized_at_most}
use Rattle.lam_solve.proofs.Machine.{sum_two}
use Rattle.lam_solve.proofs.Refined.{shifted-within}
use Rattle.lam_solve.proofs.solution.middle.Goals as goal

pub returns-clause-small : goal.returns-clause-small
returns-clause-small g c =
    let twice = sized_stored-128 (sum_two c.requires.low c.requires.high) in
    at_most (sized_stored-128 (sized_at_most (shifted-within _ _ _ (100 * 2 ^ 120) c.shift_down.ensures (size_at_most _ (100 * 2 ^ 120) twice refl)))) refl
