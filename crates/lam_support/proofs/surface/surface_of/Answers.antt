use Rattle.lam_support.proofs.SurfaceFacts.{ratio_read, shift_read, coupling_reaches, lesser_reaches, reaches_as, rest_reaches}
use Rattle.lam_support.proofs.surface.surface_of.Goals as goal

pub rest-requires-clause-lesser : goal.rest-requires-clause-lesser
rest-requires-clause-lesser g c = reaches_as c.lesser_coupling.ensures (lesser_reaches g.met.N.Enclosure.laws c.requires.strengths)

pub rest-requires-clause-greater : goal.rest-requires-clause-greater
rest-requires-clause-greater g c = reaches_as c.coupling-greater_coupling.ensures (coupling_reaches g.met.N.Enclosure.laws c.requires.strengths)

pub returns-clause-reach : goal.returns-clause-reach
returns-clause-reach g c =
    let laws = g.met.N.Enclosure.laws in
    let h = c.requires.strengths in
    let coupling = reaches_as c.coupling-greater_coupling.ensures (coupling_reaches laws h) in
    let lesser = reaches_as c.lesser_coupling.ensures (lesser_reaches laws h) in
    record {
      along = ratio_read laws h.range.xt h.range.xc h.ratio.along c.ratio.ensures;
      across = ratio_read laws h.range.yt h.range.yc h.ratio.across c.ratio-2.ensures;
      coupling = coupling;
      rest = reaches_as c.rest.ensures (rest_reaches laws lesser coupling);
      shift_along = shift_read laws h.range.xt h.range.xc c.shift.ensures;
      shift_across = shift_read laws h.range.yt h.range.yc c.shift-2.ensures;
    }
