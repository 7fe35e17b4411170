-- the value of a multiple of a stress
pub mod Multiples
-- the laws of values near 1
pub mod NearValues
-- the laws of the places of a wall
pub mod Places
-- what near 1 means, on worked numbers
pub mod NearOneTrials
