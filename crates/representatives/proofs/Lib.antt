pub mod Choosing
pub mod Representatives
