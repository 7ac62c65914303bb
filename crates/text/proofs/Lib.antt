pub mod Stores
pub mod Lines
pub mod Listed
pub mod Long
pub mod Answers
pub mod Unique
