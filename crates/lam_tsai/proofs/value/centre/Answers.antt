use Rattle.std.proofs.Common.{refl}
use Rattle.lam_fraction.proofs.numbers.Rooms.{rooms, product_room, square_room, sum_room}
use Rattle.lam_tsai.proofs.value.centre.Goals as goal

pub add-axes-requires : goal.add-axes-requires
add-axes-requires g c = sum_room g.met.N.Enclosure.laws (search (rooms, c) depth 20 fits 9000) refl

pub mul-both-requires : goal.mul-both-requires
mul-both-requires g c = product_room g.met.N.Enclosure.laws (search (rooms, c) depth 20 fits 9000) refl

pub mul-mixed-requires : goal.mul-mixed-requires
mul-mixed-requires g c = product_room g.met.N.Enclosure.laws (search (rooms, c) depth 20 fits 9000) refl

pub square-square-requires : goal.square-square-requires
square-square-requires g c = square_room g.met.N.Enclosure.laws (search (rooms, c) depth 20 fits 9000) refl

pub add-rest-requires : goal.add-rest-requires
add-rest-requires g c = sum_room g.met.N.Enclosure.laws (search (rooms, c) depth 20 fits 9000) refl

pub add-sum-requires : goal.add-sum-requires
add-sum-requires g c = sum_room g.met.N.Enclosure.laws (search (rooms, c) depth 20 fits 9000) refl

pub sub-requires : goal.sub-requires
sub-requires g c = sum_room g.met.N.Enclosure.laws (search (rooms, c) depth 20 fits 9000) refl
