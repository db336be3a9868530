pub mod Tests
pub mod Laws
pub mod Tables
pub mod Gather
