pub mod LoadFits
pub mod Worked
pub mod LoadTrials
pub mod LaminateStrainTrials
pub mod EveryWave
pub mod PlateTrials
pub mod RuleTrials
pub mod PartialTrials
pub mod OnePly
pub mod NearTrials
pub mod HangTrials
pub mod DesignTrials
pub mod SlantedTrials
pub mod JobTrials
pub mod PlaceTrials
pub mod Completions
-- the items that numbers of a catalogue list
pub mod Listed
-- where plies lie, and how thick they are together
pub mod Places
-- sums of thicknesses in machine numbers
pub mod ThicknessSteps
pub mod BrokenRules
-- lists and tables of a TOML document
pub mod Documents
-- the fault of a row, by what stands at its key
pub mod Rows
-- loops over the members of a list
pub mod Passing
-- the bits of a set of items
pub mod Sets
-- a case once its kind is known
pub mod CaseRows
-- the keys of counts are apart, and so no more than the items
pub mod Counted
-- the bytes of a job
pub mod JobBytes
-- jobs as tables, tried key by key
pub mod JobOfTrials
-- the items that a job names
pub mod KnownItems
