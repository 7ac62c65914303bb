pub mod Sums
pub mod Parts
pub mod Resting
pub mod Turns
pub mod Unique
