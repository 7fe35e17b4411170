-- what the room of printed ratios shows of its fields
pub mod Views
-- the two scales of fixed point
pub mod Scales
-- which rules are kept and which loads are in range, as tests
pub mod Kept
-- the first place that fails, else the first that straddles
pub mod Findings
-- what depends on a catalogue alone
pub mod Tables
-- how a schedule is judged
pub mod Judged
-- its printed ratios
pub mod Ratios
-- the wall of a schedule
pub mod Layups
-- the wall under a case, and its places
pub mod Loads
