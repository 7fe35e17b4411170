use Rattle.std.proofs.Common.{refl, pos}
use Rattle.lam_fraction.proofs.numbers.Rooms.{rooms, multiple_room, product_room, sum_room}
use Rattle.lam_tsai.proofs.components.shear.Goals as goal

pub times_whole-twice-requires : goal.times_whole-twice-requires
times_whole-twice-requires g c = multiple_room g.met.N.Enclosure.laws (pos 2) (search (rooms, c) depth 20 fits 9000) refl

pub sub-between-requires : goal.sub-between-requires
sub-between-requires g c = sum_room g.met.N.Enclosure.laws (search (rooms, c) depth 20 fits 9000) refl

pub mul-first-requires : goal.mul-first-requires
mul-first-requires g c = product_room g.met.N.Enclosure.laws (search (rooms, c) depth 20 fits 9000) refl

pub mul-second-requires : goal.mul-second-requires
mul-second-requires g c = product_room g.met.N.Enclosure.laws (search (rooms, c) depth 20 fits 9000) refl

pub add-requires : goal.add-requires
add-requires g c = sum_room g.met.N.Enclosure.laws (search (rooms, c) depth 20 fits 9000) refl
