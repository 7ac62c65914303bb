pub mod Names
pub mod Sample
pub mod Stream
pub mod Found
pub mod Told
pub mod Examples
pub mod Answers
