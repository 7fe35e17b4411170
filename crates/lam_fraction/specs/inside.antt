-- why ℚ is well defined
pub mod WholeNumbers
pub mod CrossProducts
pub mod Quotient
-- what is known of an enclosure inside a formula
pub mod Known
-- how far it reaches
pub mod Reaches
-- the size of a whole number
pub mod Size
-- the ends that fixed point gives
pub mod FixedEnds
