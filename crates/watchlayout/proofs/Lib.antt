pub mod Numbers
pub mod Fits
pub mod Back
pub mod Given
pub mod Stays
pub mod Calls
pub mod Answers
pub mod Once
