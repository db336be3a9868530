pub mod Settling
pub mod Turns
pub mod Keeping
pub mod Visiting
pub mod Climbing
pub mod Right
pub mod Maps
