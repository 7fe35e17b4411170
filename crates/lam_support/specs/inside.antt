pub mod Formulas
pub mod Known
