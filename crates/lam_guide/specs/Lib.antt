pub mod Ranks
pub mod Credits
