pub mod Opening
pub mod Node
pub mod Leveling
pub mod Residue
pub mod Runs
