pub mod Longest
pub mod Witnesses
pub mod Answers
