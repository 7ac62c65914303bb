pub mod Quiet
pub mod Laws
pub mod Told
pub mod Unique
