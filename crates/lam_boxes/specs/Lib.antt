pub mod BoxLaw  -- what a box of strains says
pub mod inside  -- words that calls need and nobody has to believe
