-- the stiffness of a layer: the numbers that give its stress at each strain
pub mod Stiffness
-- the laminae that a scale covers
pub mod Covered
-- what sets of enclosures hold, and how narrow they are
pub mod Held
-- the formulas that the code computes by
pub mod inside
