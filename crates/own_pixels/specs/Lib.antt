pub mod Points
pub mod OwnPixels
