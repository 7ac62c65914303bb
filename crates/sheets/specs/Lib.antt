pub mod Sheets
pub mod Settings
pub mod Waits
pub mod Laws
pub mod Started
pub mod Examples
pub mod Answers
