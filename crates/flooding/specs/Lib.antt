pub mod Flooding
pub mod Numbers
