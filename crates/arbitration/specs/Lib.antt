pub mod Cleared
pub mod Quiet
