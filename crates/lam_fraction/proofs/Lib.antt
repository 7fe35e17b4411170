-- rings, ordered rings and fields
pub mod Ring
-- laws of the whole numbers
pub mod Laws
-- expressions in numbered unknowns
pub mod Expression
-- their normal form
pub mod Normaliser
-- which has their value
pub mod Soundness
-- identities by the normal form
pub mod Solver
-- inequalities by certificates
pub mod Order
-- both at the whole numbers
pub mod Integers
-- bounds of polynomials by computing
pub mod Ranges
-- from pairs to numbers and back
pub mod FractionPairs
-- ℚ is a field
pub mod FractionRing
-- its order is total
pub mod FractionOrder
-- identities and inequalities at ℚ
pub mod Rationals
-- bounds of sums, products and quotients
pub mod FractionBounds
-- whole numbers as fractions
pub mod WholeFractions
-- sums over lists
pub mod Sums
-- at ℚ
pub mod FractionSums
-- what the solver can do
pub mod Trials
-- what it can do at ℚ
pub mod FractionTrials
-- definitions tried on numbers
pub mod RationalTrials
-- what is known of enclosures inside formulas
pub mod numbers
