-- counts that rise, up to the greatest u64
pub mod Counts
-- what a sink was given, where it tells that
pub mod Told
-- what taking a file's contents answers
pub mod Holds
-- which calls of an object in memory fail
pub mod Calls
-- what a sink in memory holds
pub mod SinkState
-- what files in memory tell
pub mod Kept
-- words that calls need, and nobody has to believe
pub mod inside
