pub mod Handed
pub mod Mixed
pub mod Demand
pub mod Dark
