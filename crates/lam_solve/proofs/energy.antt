-- sizes of fractions
pub mod Sizes
-- strains whose mean squares are at most the work of small forces
pub mod SmallWork
-- strains by small forces, and near a guess
pub mod SmallForces
-- the forces and moments of a load in range
pub mod LoadSizes
-- for plies of a catalogue
pub mod PlyStrains
-- for enclosed walls
pub mod WallStrains
-- in whole units
pub mod Units
-- what a load leaves at a guess, from whole ends
pub mod Residuals
-- a guess, and what enclosures hold of a wall and its load
pub mod EnclosedGuess
-- the strain at a place
pub mod FaceStrains
-- the floor and the scale
pub mod ScaleOrder
-- the bounds tried on numbers
pub mod BoundTrials
