-- how far apart the ends of a residual are, and how far from 0
pub mod Apart
-- how far a residual's ends reach where its middle is small
pub mod SmallMiddles
-- how wide the strains round a centre are
pub mod Rounds
-- how wide they are where the residual is small
pub mod NarrowStrains
-- and how wide the strains at a face
pub mod NarrowFaces
-- the bounds tried on numbers
pub mod WidthTrials
-- so it is of a wall that is solved
pub mod Solved
