pub mod Calls
pub mod Head
pub mod Told
