use Rattle.std.proofs.Common.{refl, ◌∙◌, ap₂}
use Rattle.lam_fraction.specs.numbers.Numbers.{RatioRoom}
use Rattle.lam_fraction.proofs.numbers.Machine.{stored-128, is_exact}
use Rattle.lam_tsai.proofs.Computed.{computed, in_room, quadratic_room}
use Rattle.lam_tsai.proofs.coefficients.quadratic.Goals as goal

pub of_ratio-requires : goal.of_ratio-requires
of_ratio-requires g c =
    let room : RatioRoom (stored-128 c.from.result) (stored-128 c.times_lesser.result) =
    in_room (is_exact (search (computed, c) depth 30 fits 9000) refl) (is_exact (search (computed, c) depth 30 fits 9000) refl)
    (quadratic_room c.requires.tension c.requires.compression c.requires.near) in
    record { positive = room.positive; den = room.den; num = room.num; room = room.room }

pub returns : goal.returns
returns g c =
    c.of_ratio.ensures
    ∙ ap₂ g.N.Enclosure.numbers.calc.ratio (is_exact (search (computed, c) depth 30 fits 9000) refl) (is_exact (search (computed, c) depth 30 fits 9000) refl)
