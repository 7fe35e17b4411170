use Rattle.std.proofs.Common.{refl}
use Rattle.lam_fraction.proofs.numbers.Rooms.{rooms, reaches_here}
use Rattle.lam_lamina.proofs.transformation.by_powers.Goals as goal

pub normal-requires-clause-between : goal.normal-requires-clause-between
normal-requires-clause-between g c = reaches_here g.met.N.Enclosure.laws (search (rooms, c) depth 20 fits 9000) refl

pub mixed-requires-clause-difference : goal.mixed-requires-clause-difference
mixed-requires-clause-difference g c = reaches_here g.met.N.Enclosure.laws (search (rooms, c) depth 20 fits 9000) refl

pub normal-requires-2-clause-between : goal.normal-requires-2-clause-between
normal-requires-2-clause-between g c = reaches_here g.met.N.Enclosure.laws (search (rooms, c) depth 20 fits 9000) refl

pub mixed-requires-2-clause-difference : goal.mixed-requires-2-clause-difference
mixed-requires-2-clause-difference g c = reaches_here g.met.N.Enclosure.laws (search (rooms, c) depth 20 fits 9000) refl
