-- whole numbers that went to bits and came back
pub mod Casts
-- what fits 64 and 128 bits
pub mod Sizes
-- quotients that fit, and the only whole root
pub mod Rounded
-- a value of fixed point is known by its ends
pub mod FixFacts
-- a ball is known by its middle and its radius; sizes
pub mod Balls
