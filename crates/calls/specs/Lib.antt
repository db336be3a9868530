pub mod Steps
pub mod Judging
pub mod Calls
pub mod Reversed
pub mod Combined
pub mod RootToLeaf
pub mod Alike
