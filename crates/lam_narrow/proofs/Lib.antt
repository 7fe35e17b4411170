-- a quadratic form and its slopes
pub mod Quadratic
-- how steep it is where its value is near 1
pub mod Slopes
-- the criterion's terms
pub mod ItemTerms
-- how far the stresses of a ply move
pub mod Shifts
-- the law of near strains
pub mod CloseValues
-- how far values move, on worked numbers
pub mod CloseTrials
-- how wide the strains in the axes of a ply are
pub mod ThinStrains
-- .. and the stresses
pub mod ThinStresses
-- a stress at a factor
pub mod ThinShares
-- the criterion at a point
pub mod PointWidths
-- .. and round it
pub mod RoundWidths
-- slopes times half widths
pub mod Tilted
-- how the value moves from a point
pub mod MiddleValues
-- how far a value is from 1
pub mod Circle
-- values settled to a level
pub mod Settled
-- how far the value of the criterion is from 1
pub mod Banded
-- where a verdict straddles
pub mod Verdicts
