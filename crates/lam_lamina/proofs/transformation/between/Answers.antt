use Rattle.std.proofs.Common.{refl, pos}
use Rattle.lam_fraction.proofs.numbers.Rooms.{rooms, multiple_room, product_room}
use Rattle.lam_lamina.proofs.transformation.between.Goals as goal

pub times_whole-twice-requires : goal.times_whole-twice-requires
times_whole-twice-requires g c = multiple_room g.met.N.Enclosure.laws (pos 2) (search (rooms, c) depth 20 fits 9000) refl

pub mul-requires : goal.mul-requires
mul-requires g c = product_room g.met.N.Enclosure.laws (search (rooms, c) depth 20 fits 9000) refl
