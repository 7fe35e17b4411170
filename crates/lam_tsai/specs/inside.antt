-- the formulas, over any arithmetic
pub mod Formulas
-- the values of the calls
pub mod Values
-- how far numbers reach on the way
pub mod Reach
-- the halving of a printed ratio
pub mod Halving
