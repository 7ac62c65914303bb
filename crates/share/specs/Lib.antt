pub mod Numbers
pub mod States
pub mod Share
pub mod Walk
pub mod Laws
pub mod Examples
pub mod Lent
pub mod Answers
