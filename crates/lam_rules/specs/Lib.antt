pub mod Conditions  -- which partials a call may be asked about
pub mod Growing  -- a partial that grows and shrinks at its end
pub mod LeastVisible  -- the first rule that is visibly broken
pub mod inside  -- words that calls need and nobody has to believe
