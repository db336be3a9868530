pub mod Columns
pub mod Placing
