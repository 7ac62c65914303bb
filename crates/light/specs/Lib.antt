pub mod Light
pub mod Ended
pub mod Turns
pub mod Answers
