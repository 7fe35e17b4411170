-- from the bytes of two files to an input
pub mod InputSteps
-- names and lines, on examples
pub mod Trials
-- the names of a schedule word, one by one
pub mod Listings
-- a job that bytes mean is one of its catalogue
pub mod JobFor
-- the plies that a schedule word lists
pub mod ScheduleFacts
-- cases in range
pub mod RangeFacts
-- what the files of an order say
pub mod OrderFacts
-- from the steps of a mode to its ending
pub mod ModeSteps
-- printed ratios are those that an analysis has to say
pub mod PrintedLines
-- no printed ratio is above the greatest
pub mod PrintedBounds
-- the lists of printed ratios, from the room of a schedule
pub mod PrintedLists
-- the number of nodes that words name
pub mod Budgets
-- from the steps of an analysis to its ending
pub mod AnalysisSteps
-- from the steps of a check to its ending
pub mod CheckSteps
-- the endings of a run
pub mod Endings
-- from the steps of a design to its ending
pub mod DesignSteps
-- from the steps of a sample to its ending
pub mod SampleSteps
