pub mod Lowering
mod Searching
