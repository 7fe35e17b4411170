-- the reading of words, on words
mod ReadingTrials
-- what follows a prefix
pub mod Prefixes
-- a word that parses as a number
pub mod Numerals
-- what clap found
pub mod FoundRows
-- the command as clap builds it
pub mod Built
-- clap takes each word that can be sorted
pub mod PlainWords
pub mod Standing
pub mod Turns
pub mod Simulated
pub mod ByClap
-- the order of words, by what they say
pub mod Orders
