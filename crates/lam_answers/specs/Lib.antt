pub mod inside  -- words that calls need and nobody has to believe
