pub mod Checked  -- what is said of bytes that are checked as a report
pub mod inside  -- words that calls need and nobody has to believe
