-- the form of D at two shares, between two numbers
pub mod FormBounds
-- two shares, and their product
pub mod ShareBounds
-- what the steps of shifted numbers come to, in parts of the numbers
pub mod ShiftSteps
-- comparisons that fail
pub mod MissedTests
-- how wide the enclosures of a wave are
pub mod WaveWidths
-- a panel in a number of half waves
pub mod NearWaves
-- a panel, whatever the number of half waves
pub mod NearPanels
