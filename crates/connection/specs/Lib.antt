pub mod Links
pub mod Quiet
