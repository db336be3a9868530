pub mod Signed
pub mod Merging
pub mod Calling
