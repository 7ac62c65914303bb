pub mod Padded
pub mod Pointer
pub mod Unique
