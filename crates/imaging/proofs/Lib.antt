pub mod OnImages
pub mod Leaps
pub mod Answers
pub mod Unique
