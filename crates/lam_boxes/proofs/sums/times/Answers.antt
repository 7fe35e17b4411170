use Rattle.std.proofs.Common.{refl}
use Rattle.lam_fraction.proofs.numbers.Rooms.{rooms, product_room}
use Rattle.lam_boxes.proofs.sums.times.Goals as goal

pub mul-requires : goal.mul-requires
mul-requires g c = product_room g.met.N.Enclosure.laws (search (rooms, c) depth 20) refl
