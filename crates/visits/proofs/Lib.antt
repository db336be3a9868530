pub mod Visits
pub mod Beside
