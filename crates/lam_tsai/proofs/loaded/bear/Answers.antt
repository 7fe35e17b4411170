use Rattle.std.proofs.Common.{refl}
use Rattle.lam_fraction.proofs.numbers.Rooms.{rooms, product_room}
use Rattle.lam_tsai.proofs.loaded.bear.Goals as goal

pub mul-value-requires : goal.mul-value-requires
mul-value-requires g c = product_room g.met.N.Enclosure.laws (search (rooms, c) depth 20 fits 9000) refl
