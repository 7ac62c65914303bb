pub mod Orders
pub mod Choices
pub mod Call
pub mod Walk
pub mod Answers
