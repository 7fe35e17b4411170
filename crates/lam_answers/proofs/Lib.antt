-- what the word of a judged completion says is so
pub mod Judged
