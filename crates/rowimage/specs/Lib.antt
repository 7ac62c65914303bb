pub mod Row
pub mod Faults
pub mod Calls
pub mod Slots
pub mod Laws
pub mod Walk
pub mod Answers
