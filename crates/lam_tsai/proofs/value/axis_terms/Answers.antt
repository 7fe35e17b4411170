use Rattle.std.proofs.Common.{refl}
use Rattle.lam_fraction.proofs.numbers.Rooms.{rooms, product_room, square_room, sum_room}
use Rattle.lam_tsai.proofs.value.axis_terms.Goals as goal

pub mul-linear-requires : goal.mul-linear-requires
mul-linear-requires g c = product_room g.met.N.Enclosure.laws (search (rooms, c) depth 20 fits 9000) refl

pub square-square-requires : goal.square-square-requires
square-square-requires g c = square_room g.met.N.Enclosure.laws (search (rooms, c) depth 20 fits 9000) refl

pub mul-bent-requires : goal.mul-bent-requires
mul-bent-requires g c = product_room g.met.N.Enclosure.laws (search (rooms, c) depth 20 fits 9000) refl

pub add-requires : goal.add-requires
add-requires g c = sum_room g.met.N.Enclosure.laws (search (rooms, c) depth 20 fits 9000) refl
