pub mod Parts
pub mod Formulas
