pub mod Climbing
pub mod Opening
