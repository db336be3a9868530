pub mod Judging
pub mod Walk
pub mod Answers
