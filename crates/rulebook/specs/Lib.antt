pub mod Scripts
pub mod Rows
pub mod Answers
