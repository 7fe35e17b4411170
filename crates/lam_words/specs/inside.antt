pub mod Spelled
pub mod Command
