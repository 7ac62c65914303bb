pub mod Advancing
pub mod Laws
pub mod Answers
