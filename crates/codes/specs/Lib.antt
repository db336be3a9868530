pub mod Codes
pub mod Told
