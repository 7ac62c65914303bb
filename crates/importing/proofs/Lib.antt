pub mod Stored
pub mod Turns
pub mod Numbers
pub mod Unique
