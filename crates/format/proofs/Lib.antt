pub mod Refused
pub mod Unique
