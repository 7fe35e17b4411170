pub mod Wide
pub mod SquareBounds
