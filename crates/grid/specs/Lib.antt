pub mod Pixels
pub mod Neighbours
pub mod Attributes
pub mod Triples
pub mod Greys
