pub mod Faults  -- the faults that a check answers
pub mod Headed  -- a report by its head and its tree
pub mod Says  -- what is said of an accepted report
pub mod inside  -- words that calls need and nobody has to believe
