pub mod Counts
pub mod Tick
pub mod Ticks
pub mod Answers
pub mod Unique
