use Rattle.std.proofs.Common.{refl}
use Rattle.lam_fraction.proofs.numbers.Rooms.{rooms, product_room, sum_room}
use Rattle.lam_boxes.proofs.residual.row.Goals as goal

pub mul-x-requires : goal.mul-x-requires
mul-x-requires g c = product_room g.met.N.Enclosure.laws (search (rooms, c) depth 20 fits 9000) refl

pub mul-y-requires : goal.mul-y-requires
mul-y-requires g c = product_room g.met.N.Enclosure.laws (search (rooms, c) depth 20 fits 9000) refl

pub mul-s-requires : goal.mul-s-requires
mul-s-requires g c = product_room g.met.N.Enclosure.laws (search (rooms, c) depth 20 fits 9000) refl

pub add-normal-requires : goal.add-normal-requires
add-normal-requires g c = sum_room g.met.N.Enclosure.laws (search (rooms, c) depth 20 fits 9000) refl

pub add-sum-requires : goal.add-sum-requires
add-sum-requires g c = sum_room g.met.N.Enclosure.laws (search (rooms, c) depth 20 fits 9000) refl

pub sub-requires : goal.sub-requires
sub-requires g c = sum_room g.met.N.Enclosure.laws (search (rooms, c) depth 20 fits 9000) refl
