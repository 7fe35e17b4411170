pub mod Reports  -- the report of what a search found
pub mod inside  -- words that calls need and nobody has to believe
