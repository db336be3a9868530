pub mod Grids
pub mod Attributes
pub mod Frame
pub mod Triples
pub mod Sides
pub mod Whole
pub mod Edges
