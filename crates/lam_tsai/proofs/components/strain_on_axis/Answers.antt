use Rattle.std.proofs.Common.{refl}
use Rattle.lam_fraction.proofs.numbers.Rooms.{rooms, reaches_here}
use Rattle.lam_tsai.proofs.Reaching.{face_reach}
use Rattle.lam_tsai.proofs.components.strain_on_axis.Goals as goal

pub along-requires-clause-x : goal.along-requires-clause-x
along-requires-clause-x g c = reaches_here g.met.N.Enclosure.laws (search (rooms, face_reach c.requires.six, c) depth 20 fits 9000) refl

pub along-requires-clause-y : goal.along-requires-clause-y
along-requires-clause-y g c = reaches_here g.met.N.Enclosure.laws (search (rooms, face_reach c.requires.six, c) depth 20 fits 9000) refl

pub along-requires-clause-g : goal.along-requires-clause-g
along-requires-clause-g g c = reaches_here g.met.N.Enclosure.laws (search (rooms, face_reach c.requires.six, c) depth 20 fits 9000) refl

pub across-requires-clause-x : goal.across-requires-clause-x
across-requires-clause-x g c = reaches_here g.met.N.Enclosure.laws (search (rooms, face_reach c.requires.six, c) depth 20 fits 9000) refl

pub across-requires-clause-y : goal.across-requires-clause-y
across-requires-clause-y g c = reaches_here g.met.N.Enclosure.laws (search (rooms, face_reach c.requires.six, c) depth 20 fits 9000) refl

pub across-requires-clause-g : goal.across-requires-clause-g
across-requires-clause-g g c = reaches_here g.met.N.Enclosure.laws (search (rooms, face_reach c.requires.six, c) depth 20 fits 9000) refl

pub shear-requires-clause-x : goal.shear-requires-clause-x
shear-requires-clause-x g c = reaches_here g.met.N.Enclosure.laws (search (rooms, face_reach c.requires.six, c) depth 20 fits 9000) refl

pub shear-requires-clause-y : goal.shear-requires-clause-y
shear-requires-clause-y g c = reaches_here g.met.N.Enclosure.laws (search (rooms, face_reach c.requires.six, c) depth 20 fits 9000) refl

pub shear-requires-clause-g : goal.shear-requires-clause-g
shear-requires-clause-g g c = reaches_here g.met.N.Enclosure.laws (search (rooms, face_reach c.requires.six, c) depth 20 fits 9000) refl

pub returns-clause-reach : goal.returns-clause-reach
returns-clause-reach g c = record { along = reaches_here g.met.N.Enclosure.laws (search (rooms, face_reach c.requires.six, c) depth 20 fits 9000) refl; across = reaches_here g.met.N.Enclosure.laws (search (rooms, face_reach c.requires.six, c) depth 20 fits 9000) refl; shear = reaches_here g.met.N.Enclosure.laws (search (rooms, face_reach c.requires.six, c) depth 20 fits 9000) refl }
