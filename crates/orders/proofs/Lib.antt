pub mod Numbers
pub mod Choices
pub mod Bytes
pub mod Single
pub mod Pouring
pub mod Calls
pub mod Answers
pub mod Unique
