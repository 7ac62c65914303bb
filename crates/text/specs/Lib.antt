pub mod Written
pub mod Long
pub mod Answers
