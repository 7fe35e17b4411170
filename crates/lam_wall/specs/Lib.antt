-- the matrices A, B and D of a wall, as shares of its plies' stiffnesses
pub mod Matrices
-- they give the force and moment sums, so that equilibrium is six linear equations
pub mod MatrixLaw
-- twice the strain energy of a wall, and its bounds
pub mod Energy
-- the quadratic form of A, B, D, its bounds, and the one laminate strain under a load
pub mod QuadraticForm
-- where the faces of the plies lie
pub mod Faces
-- what the enclosed matrices of a wall stand for
pub mod Assembled
-- values, and what is known of sums on the way
pub mod inside
