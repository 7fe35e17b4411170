pub mod Formulas
pub mod Known
pub mod Eighths
pub mod Table
