use Rattle.std.proofs.Common.{◌∙◌, ap, ◌+◌, ◌*◌, ◌/◌, ◌^◌, pos, unsigned_abs}
use Rattle.lam_fraction.specs.numbers.Rounding.{root_floor}
use Rattle.lam_number.proofs.Balls.{ball_is, half_is}
use Rattle.lam_number.proofs.Casts.{read_narrow}
use Rattle.lam_number.proofs.ball_arithmetic.root.Goals as goal

pub returns : goal.returns
returns c =
    let end = read_narrow c.high_end-high.result _ (record { sfits = c.high_end-high.type_inv }) c.high_end-high.ensures in
    let value = c.scaled_root.ensures.value ∙ ap (λ z. root_floor (unsigned_abs z * 2 ^ 60)) end in
    let half = half_is c.scaled_root.result c.scaled_root.ensures.bound ∙ ap (λ s. pos ((s + 2) / 2)) value in
    ball_is _ _ _ half half
