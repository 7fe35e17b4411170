-- how far the laminate strain of a wall can lie from none and from a guess
pub mod StrainBounds
-- what enclosed strains hold, and how far they reach
pub mod Solutions
-- how wide they are
pub mod Widths
-- values, and what calls need on the way
pub mod inside
