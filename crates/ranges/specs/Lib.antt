pub mod Names
pub mod Ranges
pub mod RangeWitnesses
pub mod Exact
pub mod ExactWitnesses
pub mod Answers
