-- nodes that hold at their moment
pub mod Holding
-- true leaves stay true
pub mod Staying
-- a walk, step by step
pub mod WalkSteps
-- the children of a split in order
pub mod Ordering
-- the judged word of a full partial
pub mod JudgedWords
-- the first undecided leaf
pub mod FirstNear
-- what a tree shows when it is read again
pub mod SeekSteps
-- the report of what was found
pub mod Outcomes
-- how many lines a tree has in which the lines end
pub mod Totals
-- what closes a partial schedule
pub mod Closing
-- where a walk is
pub mod Places
-- one child of a split
pub mod Turns
-- what the reading of a search gives
pub mod Endings
