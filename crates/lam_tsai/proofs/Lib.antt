-- tests of the order of whole numbers
pub mod Ordered
-- powers of two, and the shift of a load
pub mod Shifts
-- a number round its middle
pub mod Rounding
-- the load of a factor
pub mod Loads
-- the criterion's whole numbers, as a machine computes them
pub mod Computed
-- how far strains, angles and coefficients reach
pub mod Reaching
-- how small and how great the value can be
pub mod CriterionBounds
-- what the limits of a catalogue say of an item
pub mod ItemFacts
-- the criterion's terms, and its value by the code's formula
pub mod CriterionTerms
pub mod ScaledValue
-- what the stresses of a side hold
pub mod Stresses
-- what they hold at a factor
pub mod LoadedHeld
-- what the limits on strengths say of the coefficients and the value
pub mod CoefficientLimits
-- what a level says
pub mod LevelHeld
-- halving between a number that passes a test and one that doesn't
pub mod Halved
-- what it says that faces meet a factor
pub mod FactorsMet
-- the ratio of a ply in a loaded wall
pub mod CaseRatios
