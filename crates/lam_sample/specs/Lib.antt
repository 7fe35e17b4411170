pub mod Draws  -- draws from a number
pub mod SampleStock  -- the catalogue of a number
pub mod SampleJob  -- the job of a number
pub mod inside  -- words that calls need and nobody has to believe
