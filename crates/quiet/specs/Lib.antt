pub mod Counts
pub mod Quiet
pub mod Answers
