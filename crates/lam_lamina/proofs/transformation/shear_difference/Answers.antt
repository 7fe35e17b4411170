use Rattle.std.proofs.Common.{refl, pos}
use Rattle.lam_fraction.proofs.numbers.Rooms.{rooms, multiple_room, sum_room}
use Rattle.lam_lamina.proofs.transformation.shear_difference.Goals as goal

pub times_whole-twice-requires : goal.times_whole-twice-requires
times_whole-twice-requires g c = multiple_room g.met.N.Enclosure.laws (pos 2) (search (rooms, c) depth 20 fits 9000) refl

pub sub-requires : goal.sub-requires
sub-requires g c = sum_room g.met.N.Enclosure.laws (search (rooms, c) depth 20 fits 9000) refl
