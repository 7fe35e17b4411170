-- the reading, equation by equation
pub mod Equations
-- which items a split has had
pub mod Had
-- a whole tree has a leaf for each schedule
pub mod Cover
-- no completion costs less than its floor
pub mod CostFloor
-- a whole tree of true leaves settles what is least
pub mod Settle
-- an accepted report keeps its promise
pub mod Promised
-- closed reports agree
pub mod Agree
-- what a walk writes is read as what it visited
pub mod Writing
-- what was sound at its moment is sound in the end
pub mod Moments
-- lines that grow by words
pub mod Adding
-- lines and their words
pub mod WordLaws
-- the line of a node is read as that node
pub mod NodeLaws
-- definitions, tried on worked trees and reports
pub mod ReadingTrials
pub mod CheckTrials
