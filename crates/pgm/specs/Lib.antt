pub mod Page
pub mod Burst
pub mod Cut
