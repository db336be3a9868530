pub mod Chain
pub mod Mixed
pub mod Dark
