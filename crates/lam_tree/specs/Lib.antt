pub mod Words  -- what the word of a leaf says, and when it is true
pub mod Reading  -- how the lines of a tree are read
pub mod ForceBalance  -- what a balance of weighted forces says of a partial schedule
pub mod Tests  -- what is computed of a schedule
pub mod TriedWeights  -- the weights that a search tries
pub mod Closings  -- what closes a partial schedule, and when a split is lawful
pub mod ReportRanges  -- the ranges of what a report says
pub mod Lines  -- the line of a node
pub mod Findings  -- nothing, or the first fault with its line
pub mod Checks  -- what a report is accepted by
pub mod Promise  -- what a report promises
pub mod Laws  -- the laws of trees and reports
pub mod inside  -- words that calls need and nobody has to believe
