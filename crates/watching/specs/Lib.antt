pub mod Resting
pub mod Turns
