pub mod Back
pub mod Calls
pub mod Laws
pub mod Unique
