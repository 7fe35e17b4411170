-- how the code computes the verdict of a panel
pub mod Formulas
-- how far numbers reach on the way
pub mod Rooms
