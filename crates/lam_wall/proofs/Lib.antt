-- whole numbers and strains
pub mod Wholes
pub mod LinearSums
pub mod OffAxes
-- the shares of a ply, and their sums over a wall
pub mod Shares
pub mod PlySums
pub mod WallSums
pub mod PlaceSums
-- equilibrium by matrices
pub mod Strains
pub mod Equilibrium
pub mod OnlyMatrices
-- the strain at a place, and the bending stiffnesses of a plate
pub mod UnitStrains
-- twice the energy, and the quadratic form
pub mod Additive
pub mod PlyEnergy
pub mod WallEnergy
pub mod WallForm
pub mod JointEnergy
pub mod MeanSquares
-- the one laminate strain under a load
pub mod Adjugates
pub mod Solutions
pub mod OneStrain
pub mod AStrain
-- all laws for plies of a catalogue, and for enclosures that stand for them
pub mod CatalogueWalls
-- plies, faces and the range
pub mod FacePlaces
pub mod RangeSteps
-- enclosures of the sums
pub mod SharesKnown
pub mod SumsKnown
pub mod LaidWall
pub mod Assembled
-- the definitions tried on numbers
pub mod Trials
