-- quotients rounded up
pub mod Rounding
-- sums over the fixed plies of a partial schedule
pub mod FixedSums
-- sums over listed items, and over what completes a partial schedule
pub mod ItemSums
-- what it costs at least to carry so much more
pub mod NetCost
-- what a layer carries whose sides keep their ratio
pub mod LayerForces
-- what the plies of a wall carry
pub mod WallForces
-- what has to be carried, as a natural number
pub mod Demanded
-- what the bounds say of every completion
pub mod Truth
-- tables of what items carry, item by item
pub mod CarrierSteps
-- sums over the fixed plies, from a partial schedule to its child
pub mod SumSteps
-- the bounds by what is computed
pub mod BoundsBy
-- what is computed of an item is a capacity
pub mod Capacities
-- weights of the same numbers are the same
pub mod SameWeights
-- how large machine numbers are
pub mod Ranges
-- the greatest cost of an item
pub mod Costs
-- the tables of the tried weights, weight by weight
pub mod TriedSteps
-- what a walk's tables and sums say of a partial schedule
pub mod Facts
-- tables and sums together
pub mod Walking
-- tables and sums, and what they say of all children
pub mod ChildBounds
-- running sums, made at once, and with a ply more or less
pub mod RunningSteps
-- the bounds of a partial schedule by itself, from what its calls give
pub mod PlainSteps
-- the table of a tried weight
pub mod ReadyTables
