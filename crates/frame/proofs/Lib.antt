pub mod Frame
pub mod Sides
