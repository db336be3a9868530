pub mod Forest
pub mod Numbers
pub mod Same
