pub mod Sets
pub mod Gather
