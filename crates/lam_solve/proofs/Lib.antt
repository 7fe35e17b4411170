-- how large strains can be, by the energy
pub mod energy
-- one in units, and sizes of whole numbers
pub mod Units
-- what a machine computes
pub mod Machine
-- the coefficients of the equations
pub mod Rows
-- how far enclosures reach
pub mod Reach
-- the sizes of a scale, of a thickness and of a load
pub mod Posed
-- the radius, and the guesses that are near
pub mod Radius
-- what lies round a centre is held
pub mod Around
-- so is the strain at a face
pub mod AtFaces
-- so every laminate strain is held
pub mod HeldStrains
-- how wide strains are
pub mod widths
-- steps of the elimination
pub mod Eliminated
-- turns of refinement
pub mod Refined
-- the turns of refinement over a narrow wall
pub mod turns
