pub mod Tree
pub mod Forest
pub mod Listing
