pub mod Numbers
pub mod Fits
pub mod Back
pub mod Steps
pub mod Reached
pub mod Answers
pub mod Once
pub mod Flags
