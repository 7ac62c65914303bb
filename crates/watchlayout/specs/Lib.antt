pub mod Numbers
pub mod Places
pub mod Refusals
pub mod Calls
pub mod Laws
