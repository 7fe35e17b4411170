-- pairs of a numerator and a denominator
pub mod Pair
-- ℚ, in which pairs with equal cross products are one number
pub mod Fraction
-- how fractions are compared, added and multiplied by cross products
pub mod CrossLaws
-- sums over lists
pub mod Sums
-- the number that a `Frac` stands for
pub mod Value
-- what a kind of enclosure computes and promises
pub mod numbers
-- why ℚ is well defined, and what proofs say of enclosures on the way
pub mod inside
