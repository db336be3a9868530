pub mod Digits
pub mod Spelling
pub mod Exact
