pub mod Numbers
pub mod Layout
pub mod Refusals
pub mod Images
pub mod Laws
pub mod Answers
