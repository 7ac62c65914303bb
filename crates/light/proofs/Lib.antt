pub mod Settles
pub mod Told
pub mod Fits
pub mod Light
pub mod Ended
pub mod Turns
pub mod Answers
