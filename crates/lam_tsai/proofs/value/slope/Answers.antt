use Rattle.std.proofs.Common.{refl, pos}
use Rattle.lam_fraction.proofs.numbers.Rooms.{rooms, multiple_room, product_room, sum_room}
use Rattle.lam_tsai.proofs.value.slope.Goals as goal

pub mul-bent-requires : goal.mul-bent-requires
mul-bent-requires g c = product_room g.met.N.Enclosure.laws (search (rooms, c) depth 20 fits 9000) refl

pub times_whole-twice-requires : goal.times_whole-twice-requires
times_whole-twice-requires g c = multiple_room g.met.N.Enclosure.laws (pos 2) (search (rooms, c) depth 20 fits 9000) refl

pub add-alone-requires : goal.add-alone-requires
add-alone-requires g c = sum_room g.met.N.Enclosure.laws (search (rooms, c) depth 20 fits 9000) refl

pub mul-joint-requires : goal.mul-joint-requires
mul-joint-requires g c = product_room g.met.N.Enclosure.laws (search (rooms, c) depth 20 fits 9000) refl

pub add-requires : goal.add-requires
add-requires g c = sum_room g.met.N.Enclosure.laws (search (rooms, c) depth 20 fits 9000) refl
