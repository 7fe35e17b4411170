use Rattle.std.proofs.Common.{refl}
use Rattle.lam_fraction.proofs.numbers.Rooms.{rooms, sum_room}
use Rattle.lam_lamina.proofs.transformation.normal_difference.Goals as goal

pub sub-requires : goal.sub-requires
sub-requires g c = sum_room g.met.N.Enclosure.laws (search (rooms, c) depth 20 fits 9000) refl
