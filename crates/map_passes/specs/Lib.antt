pub mod Settle
pub mod Passes
