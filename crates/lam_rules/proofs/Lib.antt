-- none where all are not
pub mod Among
-- lists that are the same from both ends
pub mod Palindromes
-- slanted plies among those listed
pub mod SlantedPlies
-- runs of a list that grows at its end
pub mod RunSteps
-- rules and their numbers
pub mod RuleNumbers
-- what completes a partial schedule, in parts
pub mod Parts
-- how thick a completion is at most
pub mod Thickest
-- what is visibly broken is broken by every completion
pub mod VisibleBreaks
-- what one more ply adds to a partial schedule
pub mod Growth
