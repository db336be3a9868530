pub mod Climbing
pub mod Record
pub mod Opening
