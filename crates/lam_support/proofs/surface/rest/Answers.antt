use Rattle.std.proofs.Common.{refl, pos}
use Rattle.lam_fraction.proofs.numbers.Rooms.{rooms, sum_room, product_room, multiple_room}
use Rattle.lam_support.proofs.surface.rest.Goals as goal

pub mul-square-requires : goal.mul-square-requires
mul-square-requires g c = product_room g.met.N.Enclosure.laws (search (rooms, c) depth 20 fits 9000) refl

pub times_whole-taken-requires : goal.times_whole-taken-requires
times_whole-taken-requires g c = multiple_room g.met.N.Enclosure.laws (pos 4) (search (rooms, c) depth 20 fits 9000) refl

pub sub-requires : goal.sub-requires
sub-requires g c = sum_room g.met.N.Enclosure.laws (search (rooms, c) depth 20 fits 9000) refl
