use Rattle.std.proofs.Common.{refl, pos}
use Rattle.lam_fraction.proofs.numbers.Rooms.{rooms, square_room, sum_room, multiple_room, reaches_here}
use Rattle.lam_boxes.proofs.residual.length_square.Goals as goal

pub square-x-requires : goal.square-x-requires
square-x-requires g c = square_room g.met.N.Enclosure.laws (search (rooms, c) depth 20 fits 9000) refl

pub square-y-requires : goal.square-y-requires
square-y-requires g c = square_room g.met.N.Enclosure.laws (search (rooms, c) depth 20 fits 9000) refl

pub add-normal-requires : goal.add-normal-requires
add-normal-requires g c = sum_room g.met.N.Enclosure.laws (search (rooms, c) depth 20 fits 9000) refl

pub square-s-requires : goal.square-s-requires
square-s-requires g c = square_room g.met.N.Enclosure.laws (search (rooms, c) depth 20 fits 9000) refl

pub times_whole-requires : goal.times_whole-requires
times_whole-requires g c = multiple_room g.met.N.Enclosure.laws (pos 2) (search (rooms, c) depth 20 fits 9000) refl

pub add-requires : goal.add-requires
add-requires g c = sum_room g.met.N.Enclosure.laws (search (rooms, c) depth 20 fits 9000) refl

pub returns-clause-reach : goal.returns-clause-reach
returns-clause-reach g c = reaches_here g.met.N.Enclosure.laws (search (rooms, c) depth 20 fits 9000) refl
