use Rattle.std.proofs.Common.{refl}
use Rattle.lam_fraction.proofs.numbers.Rooms.{rooms, reaches_here, sum_room}
use Rattle.lam_plate.proofs.wave.bending_of.Goals as goal

pub add-requires : goal.add-requires
add-requires g c = sum_room g.met.N.Enclosure.laws (search (rooms, c) depth 20 fits 9000) refl

pub returns-clause-room : goal.returns-clause-room
returns-clause-room g c = record {
  along = reaches_here g.met.N.Enclosure.laws (search (rooms, c) depth 20 fits 9000) refl;
  mixed = reaches_here g.met.N.Enclosure.laws (search (rooms, c) depth 20 fits 9000) refl;
  across = reaches_here g.met.N.Enclosure.laws (search (rooms, c) depth 20 fits 9000) refl;
}
