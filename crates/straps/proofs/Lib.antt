pub mod Worked
pub mod Laws
pub mod Unique
