pub mod Scanning
pub mod Splitting
pub mod Shaping
pub mod Judging
pub mod Answering
pub mod Laws
