-- the ends that fixed point gives
pub mod FixNumbers
-- that they keep the laws of enclosures
pub mod FixLaws
-- the middles and radii that balls give
pub mod BallNumbers
-- how wide they are, how far they reach, and what lies in them
pub mod BallFacts
-- that balls keep the laws of enclosures
pub mod BallLaws
