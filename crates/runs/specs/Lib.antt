pub mod Claim
pub mod Equation
