pub mod Closing
pub mod Pouring
