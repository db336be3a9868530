pub mod Viewing
pub mod Answers
