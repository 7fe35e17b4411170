-- steps of the open splits
pub mod SplitSteps
-- each step of the machine is an equation of the reading
pub mod Walking
-- a cursor that goes to a seat, splits, or goes up
pub mod Seats
-- a line is passed, or stops the check, as its word does
pub mod LineSteps
-- what is known after so many lines
pub mod Loop
-- what finds nothing finds no fault
pub mod Excludes
-- the least rule is one rule
pub mod Rules
-- what a test of an option says
pub mod Options
-- costs of schedules, ply by ply
pub mod CostSums
-- printed ratios, line by line
pub mod Printings
-- what is found of the best schedule, as the promise of a report says it
pub mod Promises
-- how large the block of a best schedule is
pub mod BlockFacts
-- what is found of a case and a tried weight is not so of none
pub mod Tried
-- what a tree gives as the answer
pub mod Endings
-- what is found in the parts of a report is found in the whole
pub mod Gathering
