-- six whole numbers: their sum, their squares with weights
pub mod Sizes
-- how large six are, by their squares
pub mod Squares
-- the potential energy falls at a turn
pub mod Falls
-- it has a floor, and centres below a start are near to it
pub mod Near
-- matrices by the sums of ends are close to those that are held
pub mod Close
-- the starts of the turns
pub mod Starts
-- what a narrow wall and a load on it keep
pub mod WallBounds
-- the turns over a narrow wall
pub mod WallTurns
-- the loop of them
pub mod Loop
