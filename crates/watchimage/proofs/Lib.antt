pub mod Parts
pub mod Laid
pub mod Kept
pub mod Unique
