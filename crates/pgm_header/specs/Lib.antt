pub mod Bytes
pub mod Header
