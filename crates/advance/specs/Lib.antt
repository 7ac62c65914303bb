pub mod Changes
pub mod Advance
pub mod Bound
pub mod BoundWitness
pub mod Answers
