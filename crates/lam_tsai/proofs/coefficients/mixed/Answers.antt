use Rattle.std.proofs.Common.{refl, ◌∙◌, ap, pos}
use Rattle.lam_fraction.specs.numbers.Numbers.{RatioRoom}
use Rattle.lam_fraction.proofs.numbers.Machine.{stored-128, is_exact, sized_given, sized_result, sized_stored-128}
use Rattle.lam_stock.proofs.StrengthBounds.{interaction_small}
use Rattle.lam_tsai.proofs.Computed.{in_room, mixed_room}
use Rattle.lam_tsai.proofs.coefficients.mixed.Goals as goal

pub of_ratio-requires : goal.of_ratio-requires
of_ratio-requires g c =
    let room : RatioRoom (stored-128 c.interaction.result) (pos 8000000000000000000) =
    in_room (is_exact (sized_stored-128 (sized_result c.interaction.ensures (sized_given (interaction_small c.requires)))) refl) refl (mixed_room c.requires) in
    record { positive = room.positive; den = room.den; num = room.num; room = room.room }

pub returns : goal.returns
returns g c =
    c.of_ratio.ensures
    ∙ ap (λ z. g.N.Enclosure.numbers.calc.ratio z (pos 8000000000000000000)) (is_exact (sized_stored-128 (sized_result c.interaction.ensures (sized_given (interaction_small c.requires)))) refl)
