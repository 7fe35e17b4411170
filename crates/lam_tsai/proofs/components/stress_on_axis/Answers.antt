use Rattle.std.proofs.Common.{refl}
use Rattle.lam_fraction.proofs.numbers.Rooms.{rooms, product_room, reaches_here}
use Rattle.lam_tsai.proofs.components.stress_on_axis.Goals as goal

pub mul-shear-requires : goal.mul-shear-requires
mul-shear-requires g c = product_room g.met.N.Enclosure.laws (search (rooms, c) depth 20 fits 9000) refl

pub normal-requires-clause-b : goal.normal-requires-clause-b
normal-requires-clause-b g c = reaches_here g.met.N.Enclosure.laws (search (rooms, c) depth 20 fits 9000) refl

pub normal-requires-2-clause-a : goal.normal-requires-2-clause-a
normal-requires-2-clause-a g c = reaches_here g.met.N.Enclosure.laws (search (rooms, c) depth 20 fits 9000) refl

pub returns-clause-reach : goal.returns-clause-reach
returns-clause-reach g c = record { along = reaches_here g.met.N.Enclosure.laws (search (rooms, c) depth 20 fits 9000) refl; across = reaches_here g.met.N.Enclosure.laws (search (rooms, c) depth 20 fits 9000) refl; shear = reaches_here g.met.N.Enclosure.laws (search (rooms, c) depth 20 fits 9000) refl }
