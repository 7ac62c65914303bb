pub mod Input
pub mod Report
pub mod Answers
