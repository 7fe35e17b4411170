-- the files and the sink of a run, before it and after it
pub mod Outside
-- the line and the status of a fault
pub mod Faults
-- what the two files of an order say, or the first cause to refuse them
pub mod Input
-- the order that the words have, and the names of the files that it takes
pub mod Orders
-- the plies that a schedule word lists
pub mod Schedule
-- what an order to analyse is refused for, and answered with
pub mod Analysis
-- what an order to design is answered with
pub mod Design
-- what an order to check is refused for, and answered with
pub mod Checking
-- what an order of a sample is answered with
pub mod Sampling
-- what each order is answered with, and refused for
pub mod Answers
-- the table of statuses: what a run that ended with each of them did
pub mod Ending
-- words that the calls of this crate need, and nobody has to believe
pub mod inside
