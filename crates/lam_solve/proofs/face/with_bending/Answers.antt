use Rattle.std.proofs.Common.{refl}
use Rattle.lam_fraction.proofs.numbers.Rooms.{rooms, product_room, sum_room}
use Rattle.lam_solve.proofs.Reach.{short_reaches}
use Rattle.lam_solve.proofs.face.with_bending.Goals as goal

pub mul-added-requires : goal.mul-added-requires
mul-added-requires g c = let laws = g.met.N.Enclosure.laws in product_room laws (search (rooms, short_reaches laws c.requires.bending, c.requires.z, c) depth 20) refl

pub add-requires : goal.add-requires
add-requires g c = let laws = g.met.N.Enclosure.laws in sum_room laws (search (rooms, short_reaches laws c.requires.bending, short_reaches laws c.requires.mid_plane, c.requires.z, c) depth 20) refl
