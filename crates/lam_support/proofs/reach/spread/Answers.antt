use Rattle.std.proofs.Common.{refl}
use Rattle.lam_fraction.proofs.numbers.Rooms.{rooms, sum_room, product_room, square_room}
use Rattle.lam_support.proofs.reach.spread.Goals as goal

pub square-steep-requires : goal.square-steep-requires
square-steep-requires g c = square_room g.met.N.Enclosure.laws (search (rooms, c) depth 20 fits 9000) refl

pub mul-sheared-requires : goal.mul-sheared-requires
mul-sheared-requires g c = product_room g.met.N.Enclosure.laws (search (rooms, c) depth 20 fits 9000) refl

pub add-requires : goal.add-requires
add-requires g c = sum_room g.met.N.Enclosure.laws (search (rooms, c) depth 20 fits 9000) refl
