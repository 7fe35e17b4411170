pub mod Circle
pub mod Reading
pub mod Squares
