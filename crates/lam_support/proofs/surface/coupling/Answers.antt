use Rattle.std.proofs.Common.{sym, ◌∙◌, ap, subst, ◌^◌, ◌*◌, ◌≤◌, pos, unsigned_abs}
use Rattle.lam_support.proofs.SurfaceFacts.{coupling_room, coupling_read}
use Rattle.lam_support.proofs.surface.coupling.Goals as goal

pub of_ratio-requires-clause-num : goal.of_ratio-requires-clause-num
of_ratio-requires-clause-num g c =
    let h = c.requires.strengths in
    let is = coupling_read c.greater-along.result c.greater-across.result h c.requires.interaction c.interaction.ensures c.greater-along.ensures.strength c.greater-across.ensures.strength c.greater-along.ensures.value c.greater-across.ensures.value in
    subst (λ z. unsigned_abs z ≤ 2 ^ 66) (sym is) (coupling_room h).num

pub of_ratio-requires-clause-room : goal.of_ratio-requires-clause-room
of_ratio-requires-clause-room g c =
    let h = c.requires.strengths in
    let is = coupling_read c.greater-along.result c.greater-across.result h c.requires.interaction c.interaction.ensures c.greater-along.ensures.strength c.greater-across.ensures.strength c.greater-along.ensures.value c.greater-across.ensures.value in
    subst (λ z. unsigned_abs z ≤ 6 * unsigned_abs (pos 64000000000000000000)) (sym is) (coupling_room h).room

pub returns : goal.returns
returns g c =
    let h = c.requires.strengths in
    let is = coupling_read c.greater-along.result c.greater-across.result h c.requires.interaction c.interaction.ensures c.greater-along.ensures.strength c.greater-across.ensures.strength c.greater-along.ensures.value c.greater-across.ensures.value in
    c.of_ratio.ensures ∙ ap (λ z. g.N.Enclosure.numbers.calc.ratio z (pos 64000000000000000000)) is
