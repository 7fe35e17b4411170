-- what a field reads as: a name, a kind, a number
pub mod Field
-- the stiffness cap and the stiffness floor of a lamina
pub mod Moduli
-- the numbers of the limits
pub mod LimitNumbers
-- the limits of an item, as facts
pub mod Limits
-- the same as tests, and the first that is broken
pub mod Tests
-- q0 and the floor of a catalogue
pub mod Scale
-- names, likeness and mirror images of items
pub mod Likeness
-- what a catalogue keeps
pub mod Stock
-- what the bytes of a catalogue mean
pub mod Catalogue
-- stress and strain of a layer
pub mod PlyLaw
-- the criterion and the strength ratio
pub mod TsaiWu
-- strain energy and the sum of squares of strains
pub mod Energy
-- words that calls need and nobody has to believe
pub mod inside
