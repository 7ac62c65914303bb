pub mod Bytes
pub mod Joined
pub mod Prefix
pub mod Bound
pub mod Laws
pub mod Densest
pub mod Examples
pub mod Answers
