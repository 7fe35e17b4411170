use Rattle.std.proofs.Common.{refl, sym, ◌∙◌, ap, ap₂, subst}
use Rattle.lam_fraction.specs.numbers.Numbers.{RootRoom}
use Rattle.lam_fraction.proofs.numbers.Rooms.{rooms, reach_room}
use Rattle.lam_boxes.proofs.HeldBox.{root-room-of}
use Rattle.lam_boxes.proofs.residual.lengths.Goals as goal

pub hull-squares-requires-clause-first : goal.hull-squares-requires-clause-first
hull-squares-requires-clause-first g c = reach_room g.met.N.Enclosure.laws (search (rooms, c) depth 20) refl

pub hull-squares-requires-clause-second : goal.hull-squares-requires-clause-second
hull-squares-requires-clause-second g c = reach_room g.met.N.Enclosure.laws (search (rooms, c) depth 20) refl

pub root_up-requires-clause-sign : goal.root_up-requires-clause-sign
root_up-requires-clause-sign g c =
    let n = g.N.Enclosure.numbers in
    let is = c.hull-squares.ensures ∙ ap₂ n.hull c.length_square-square.ensures.value c.of_ratio.ensures in
    (subst (RootRoom n) (sym is) (root-room-of g.met.N.Enclosure.laws c.args.rest.now c.requires)).sign

pub root_up-requires-clause-room : goal.root_up-requires-clause-room
root_up-requires-clause-room g c =
    let n = g.N.Enclosure.numbers in
    let is = c.hull-squares.ensures ∙ ap₂ n.hull c.length_square-square.ensures.value c.of_ratio.ensures in
    (subst (RootRoom n) (sym is) (root-room-of g.met.N.Enclosure.laws c.args.rest.now c.requires)).room

pub returns : goal.returns
returns g c =
    let n = g.N.Enclosure.numbers in
    let is = c.hull-squares.ensures ∙ ap₂ n.hull c.length_square-square.ensures.value c.of_ratio.ensures in
    c.root_up.ensures ∙ ap n.root is
