use Rattle.std.proofs.Common.{refl}
use Rattle.lam_fraction.proofs.numbers.Rooms.{rooms, reaches_here, product_room}
use Rattle.lam_plate.proofs.wave.wave_at.Goals as goal

pub mul-shares-requires : goal.mul-shares-requires
mul-shares-requires g c = product_room g.met.N.Enclosure.laws (search (rooms, c) depth 20 fits 9000) refl

pub form-requires-clause-shares : goal.form-requires-clause-shares
form-requires-clause-shares g c = reaches_here g.met.N.Enclosure.laws (search (rooms, c) depth 20 fits 9000) refl
