pub mod Names
pub mod Shelf
pub mod Runs
pub mod Examples
pub mod ShelfWitnesses
pub mod Answers
