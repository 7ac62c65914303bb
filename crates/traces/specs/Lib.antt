pub mod Bodies
pub mod Ticks
pub mod Sides
pub mod Turns
