pub mod Waiting
pub mod Longest
pub mod Witnesses
pub mod Answers
