use Rattle.std.proofs.Common.{refl}
use Rattle.lam_fraction.proofs.numbers.Rooms.{rooms, product_room, sum_room}
use Rattle.lam_boxes.proofs.sums.gathered.Goals as goal

pub mul-part-requires : goal.mul-part-requires
mul-part-requires g c = product_room g.met.N.Enclosure.laws (search (rooms, c) depth 20) refl

pub add-requires : goal.add-requires
add-requires g c = sum_room g.met.N.Enclosure.laws (search (rooms, c) depth 20) refl
