pub mod Names
pub mod Words
pub mod Mail
pub mod Using
pub mod Runs
pub mod Assurance
