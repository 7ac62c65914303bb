pub mod Light
pub mod Heavy
pub mod Unique
