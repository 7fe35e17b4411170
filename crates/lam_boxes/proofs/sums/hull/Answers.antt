use Rattle.std.proofs.Common.{refl}
use Rattle.lam_fraction.proofs.numbers.Rooms.{rooms, reach_room}
use Rattle.lam_boxes.proofs.sums.hull.Goals as goal

pub hull-requires-clause-first : goal.hull-requires-clause-first
hull-requires-clause-first g c = reach_room g.met.N.Enclosure.laws (search (rooms, c) depth 20) refl

pub hull-requires-clause-second : goal.hull-requires-clause-second
hull-requires-clause-second g c = reach_room g.met.N.Enclosure.laws (search (rooms, c) depth 20) refl
