-- what a failing level says of the criterion's value
pub mod Failing
-- what a verdict at a place says of the stress there
pub mod PlaceTruth
-- the laws of narrow strains
pub mod NarrowLaws
-- how narrow the strains at a place are
pub mod NarrowTruth
-- what the verdicts of a wall say of its ratios
pub mod WallTruth
-- what a computed judgement says
pub mod JudgedTruth
-- what computed ratios say
pub mod PrintedTruth
