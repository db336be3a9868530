pub mod Stores
pub mod Decimals
pub mod Files
pub mod Judging
pub mod Answers
