pub mod Parts
pub mod Moves
pub mod Scan
pub mod Whole
