pub mod Names
pub mod OneBus
pub mod Events
pub mod Import
pub mod Examples
pub mod Samples
pub mod Answers
