pub mod Rows
pub mod Found
pub mod Places
pub mod Shown
pub mod Turns
pub mod Examples
pub mod ShelfWitnesses
pub mod Answers
