pub mod Readings
pub mod Turns
pub mod Endings
pub mod Pieces
pub mod Parts
pub mod Framings
