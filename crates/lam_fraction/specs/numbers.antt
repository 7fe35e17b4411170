-- the operations that formulas are made of
pub mod Arithmetic
-- reach and width
pub mod Ends
-- what two ends hold
pub mod Encloses
-- whole quotients and roots, rounded
pub mod Rounding
-- a kind of enclosure, and its laws
pub mod Numbers
