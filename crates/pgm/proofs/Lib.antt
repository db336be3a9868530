pub mod Parts
pub mod Shape
pub mod Pages
pub mod Burst
pub mod RoundTrip
pub mod Alone
pub mod Cut
