use Rattle.std.proofs.Common.{◌≡◌, ◌∙◌, ap}
use Rattle.lam_support.specs.inside.Formulas as by
use Rattle.lam_support.proofs.SurfaceFacts.{reaches_as}
use Rattle.lam_support.proofs.ReachFacts.{square_reaches, lean_reaches, root_reaches, high_in_room, low_small, high_small, stored_as_small}
use Rattle.lam_support.proofs.reach.reach.Goals as goal

pub root_up-root-requires-clause-room : goal.root_up-root-requires-clause-room
root_up-root-requires-clause-room g c =
    let laws = g.met.N.Enclosure.laws in
    high_in_room laws (reaches_as c.square-square.ensures (square_reaches laws c.requires.surface c.requires.slopes))

pub difference-requires-clause-first : goal.difference-requires-clause-first
difference-requires-clause-first g c =
    let n = g.N.Enclosure.numbers in
    let laws = g.met.N.Enclosure.laws in
    let is : c.root_up-root.result ≡ n.root (by.square n.calc c.args.surface.now c.args.slopes.now) = c.root_up-root.ensures ∙ ap n.root c.square-square.ensures in
    stored_as_small (c.high.ensures ∙ ap n.high is) (high_small laws (root_reaches laws (square_reaches laws c.requires.surface c.requires.slopes) c.requires.sign))

pub difference-requires-clause-second : goal.difference-requires-clause-second
difference-requires-clause-second g c =
    let n = g.N.Enclosure.numbers in
    let laws = g.met.N.Enclosure.laws in
    stored_as_small (c.low.ensures ∙ ap n.low c.lean-lean.ensures) (low_small laws (lean_reaches laws c.requires.surface c.requires.slopes))
