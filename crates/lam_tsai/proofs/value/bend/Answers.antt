use Rattle.std.proofs.Common.{refl}
use Rattle.lam_fraction.proofs.numbers.Rooms.{rooms, product_room, square_room, sum_room}
use Rattle.lam_tsai.proofs.value.bend.Goals as goal

pub square-along_square-requires : goal.square-along_square-requires
square-along_square-requires g c = square_room g.met.N.Enclosure.laws (search (rooms, c) depth 20 fits 9000) refl

pub mul-along-requires : goal.mul-along-requires
mul-along-requires g c = product_room g.met.N.Enclosure.laws (search (rooms, c) depth 20 fits 9000) refl

pub square-across_square-requires : goal.square-across_square-requires
square-across_square-requires g c = square_room g.met.N.Enclosure.laws (search (rooms, c) depth 20 fits 9000) refl

pub mul-across-requires : goal.mul-across-requires
mul-across-requires g c = product_room g.met.N.Enclosure.laws (search (rooms, c) depth 20 fits 9000) refl

pub add-axes-requires : goal.add-axes-requires
add-axes-requires g c = sum_room g.met.N.Enclosure.laws (search (rooms, c) depth 20 fits 9000) refl

pub mul-both-requires : goal.mul-both-requires
mul-both-requires g c = product_room g.met.N.Enclosure.laws (search (rooms, c) depth 20 fits 9000) refl

pub mul-mixed-requires : goal.mul-mixed-requires
mul-mixed-requires g c = product_room g.met.N.Enclosure.laws (search (rooms, c) depth 20 fits 9000) refl

pub square-shear_square-requires : goal.square-shear_square-requires
square-shear_square-requires g c = square_room g.met.N.Enclosure.laws (search (rooms, c) depth 20 fits 9000) refl

pub add-rest-requires : goal.add-rest-requires
add-rest-requires g c = sum_room g.met.N.Enclosure.laws (search (rooms, c) depth 20 fits 9000) refl

pub add-requires : goal.add-requires
add-requires g c = sum_room g.met.N.Enclosure.laws (search (rooms, c) depth 20 fits 9000) refl
