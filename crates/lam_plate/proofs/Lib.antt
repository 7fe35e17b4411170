-- shares of a sum
pub mod Shares
-- whole numbers of a panel, and the shift
pub mod ShiftedUnits
-- the first number that passes a test
pub mod FirstFrom
-- the entries of D that the buckling of a plate takes
pub mod BendingEntries
-- the load of the formula by the form of D at two shares
pub mod BucklingForm
-- it rises from some number of half waves on
pub mod RisingLoad
-- the halving of a range
pub mod Halving
-- from one number of half waves to the next
pub mod PanelSteps
-- comparisons by cross products
pub mod CrossProducts
-- what a verdict says
pub mod PanelFacts
-- what a printed ratio is
pub mod PrintedFacts
-- how near a verdict is to the factor
pub mod near
-- walls of plies that are all the same
pub mod AlikeWalls
-- the definitions tried on numbers
pub mod PanelTrials
