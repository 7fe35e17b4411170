use Rattle.std.proofs.Common.{sym, ◌∙◌, ap, subst, ◌^◌, ◌*◌, ◌≤◌, pos, unsigned_abs}
use Rattle.lam_support.proofs.SurfaceFacts.{lesser_room, lesser_read}
use Rattle.lam_support.proofs.surface.lesser_coupling.Goals as goal

pub of_ratio-requires-clause-num : goal.of_ratio-requires-clause-num
of_ratio-requires-clause-num g c =
    let h = c.requires.strengths in
    let is = lesser_read c.lesser-along.result c.lesser-across.result h c.requires.interaction c.interaction.ensures c.lesser-along.ensures.strength c.lesser-across.ensures.strength c.lesser-along.ensures.value c.lesser-across.ensures.value in
    subst (λ z. unsigned_abs z ≤ 2 ^ 66) (sym is) (lesser_room h).num

pub of_ratio-requires-clause-room : goal.of_ratio-requires-clause-room
of_ratio-requires-clause-room g c =
    let h = c.requires.strengths in
    let is = lesser_read c.lesser-along.result c.lesser-across.result h c.requires.interaction c.interaction.ensures c.lesser-along.ensures.strength c.lesser-across.ensures.strength c.lesser-along.ensures.value c.lesser-across.ensures.value in
    subst (λ z. unsigned_abs z ≤ 6 * unsigned_abs (pos 1000000000000000000)) (sym is) (lesser_room h).room

pub returns : goal.returns
returns g c =
    let h = c.requires.strengths in
    let is = lesser_read c.lesser-along.result c.lesser-across.result h c.requires.interaction c.interaction.ensures c.lesser-along.ensures.strength c.lesser-across.ensures.strength c.lesser-along.ensures.value c.lesser-across.ensures.value in
    c.of_ratio.ensures ∙ ap (λ z. g.N.Enclosure.numbers.calc.ratio z (pos 1000000000000000000)) is
