pub mod Pixels
pub mod Equation
pub mod Agree
