use Rattle.std.proofs.Common.{refl}
use Rattle.lam_fraction.proofs.numbers.Rooms.{rooms, product_room, sum_room}
use Rattle.lam_tsai.proofs.components.across.Goals as goal

pub mul-first-requires : goal.mul-first-requires
mul-first-requires g c = product_room g.met.N.Enclosure.laws (search (rooms, c) depth 20 fits 9000) refl

pub mul-second-requires : goal.mul-second-requires
mul-second-requires g c = product_room g.met.N.Enclosure.laws (search (rooms, c) depth 20 fits 9000) refl

pub add-normal-requires : goal.add-normal-requires
add-normal-requires g c = sum_room g.met.N.Enclosure.laws (search (rooms, c) depth 20 fits 9000) refl

pub mul-third-requires : goal.mul-third-requires
mul-third-requires g c = product_room g.met.N.Enclosure.laws (search (rooms, c) depth 20 fits 9000) refl

pub sub-requires : goal.sub-requires
sub-requires g c = sum_room g.met.N.Enclosure.laws (search (rooms, c) depth 20 fits 9000) refl
