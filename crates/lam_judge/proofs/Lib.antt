-- what printed ratios say at their numbers
pub mod PrintedRatios
-- the tests of rules, ranges and fitness
pub mod Kept
-- the first broken rule
pub mod FirstBroken
-- the first case out of range
pub mod FirstOut
-- what findings say of places
pub mod Found
-- tables that are filled entry by entry
pub mod Filled
-- the plies of a wall by number
pub mod PlacedPlies
-- walls as they are computed
pub mod WallsLaid
-- verdicts over both scales
pub mod TwoScales
-- what one scale alone settles
pub mod Settled
-- lists that are walked by number
pub mod Walked
-- the plies, cases and panels that are
pub mod PlacesWalked
-- a ply by its number
pub mod PlyFacts
-- verdicts under a case
pub mod LoadedVerdicts
-- a ply by the first scale alone
pub mod CoarsePlies
-- what computed judgements say
pub mod truth
-- the computed judgement, step by step
pub mod JudgedSteps
-- the judgement by strength
pub mod StrengthSteps
-- the computed ratios
pub mod PrintedSteps
-- where a judgement names a place, the wall has it
pub mod JudgedPlaces
-- schedules that are near nowhere
pub mod Decided
