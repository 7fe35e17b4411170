-- the weighted forces that a layer carries inside its surface
pub mod Carried
-- the formulas that the code computes by
pub mod inside
