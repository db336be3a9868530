pub mod Outlasted
pub mod Places
pub mod Largest
pub mod Raised
pub mod Joined
pub mod Nodes
