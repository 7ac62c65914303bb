pub mod Laws
pub mod Quiet
pub mod Unique
