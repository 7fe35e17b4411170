use Rattle.std.proofs.Common.{refl}
use Rattle.lam_fraction.proofs.numbers.Rooms.{rooms, reaches_here, sum_room}
use Rattle.lam_tsai.proofs.value.round_point.Goals as goal

pub add-linear-requires : goal.add-linear-requires
add-linear-requires g c = sum_room g.met.N.Enclosure.laws (search (rooms, c) depth 20 fits 9000) refl

pub add-requires : goal.add-requires
add-requires g c = sum_room g.met.N.Enclosure.laws (search (rooms, c) depth 20 fits 9000) refl

pub returns-clause-reach : goal.returns-clause-reach
returns-clause-reach g c = reaches_here g.met.N.Enclosure.laws (search (rooms, c) depth 20 fits 9000) refl
