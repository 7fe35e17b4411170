use Rattle.std.proofs.Common.{refl}
use Rattle.lam_fraction.proofs.numbers.Rooms.{rooms, product_room, sum_room}
use Rattle.lam_tsai.proofs.value.tilt.Goals as goal

pub mul-along-requires : goal.mul-along-requires
mul-along-requires g c = product_room g.met.N.Enclosure.laws (search (rooms, c) depth 20 fits 9000) refl

pub mul-across-requires : goal.mul-across-requires
mul-across-requires g c = product_room g.met.N.Enclosure.laws (search (rooms, c) depth 20 fits 9000) refl

pub add-axes-requires : goal.add-axes-requires
add-axes-requires g c = sum_room g.met.N.Enclosure.laws (search (rooms, c) depth 20 fits 9000) refl

pub mul-shear-requires : goal.mul-shear-requires
mul-shear-requires g c = product_room g.met.N.Enclosure.laws (search (rooms, c) depth 20 fits 9000) refl

pub add-requires : goal.add-requires
add-requires g c = sum_room g.met.N.Enclosure.laws (search (rooms, c) depth 20 fits 9000) refl
