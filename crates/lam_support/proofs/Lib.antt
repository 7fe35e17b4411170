-- the greatest weighted value over an ellipsoid
pub mod Ellipse
-- weights in the axes of a ply
pub mod SlopeFacts
-- the coefficients of a surface
pub mod SurfaceFacts
-- how far the steps of a reach go
pub mod ReachFacts
-- the surface of a lamina is an ellipsoid
pub mod SurfaceLaw
-- weighted stresses in the axes of a ply
pub mod Weighted
-- the stresses on the axes of a surface
pub mod Tips
-- how wide the enclosures of a reach are
pub mod Widths
-- the root of a reach, rounded either way
pub mod Rounds
-- one side of an item
pub mod Sides
-- from the reaches to the capacity
pub mod Forces
-- both sides of an item together
pub mod Both
-- the capacity of an item
pub mod CapacityFacts
-- the definitions tried on numbers
pub mod CarriedTrials
