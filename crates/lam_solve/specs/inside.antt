-- whole numbers, cut and rounded
pub mod Steps
-- what the calls need of their arguments
pub mod Parts
-- formulas over any arithmetic
pub mod Formulas
-- the residual of a centre
pub mod Residual
-- the strains round a centre
pub mod Enclosed
-- the elimination of a wall's unknowns
pub mod Elimination
-- narrow walls
pub mod Narrow
-- turns of refinement
pub mod Solution
-- where the turns of a narrow wall end
pub mod Settled
-- what falls at each turn
pub mod Turns
