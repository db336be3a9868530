pub mod Assembly
pub mod Ordering
