-- reaches, widths, and what a product's middles make
pub mod Sizes
-- whole quotients and roots, rounded
pub mod Rounded
-- of the ends that fixed point gives: how wide they are
pub mod Widths
-- how far they reach
pub mod Far
-- what they hold
pub mod Holding
-- where a middle lies, and how far a root reaches
pub mod EndFacts
-- tests that a computed bound passes
pub mod Tests
-- what is known of an answer, from what is known of its arguments
pub mod Steps
-- formulas read with what is known of their numbers
pub mod Tracks
-- .. with how far each reaches, and the room of calls
pub mod Rooms
-- .. with what is held
pub mod Held
-- what follows from the laws alone: a middle, a margin, a reach, a hull
pub mod Consequences
-- what a machine computes in 64 and in 128 bits
pub mod Machine
-- a formula of ten operations in every reading
pub mod FormulaTrials
