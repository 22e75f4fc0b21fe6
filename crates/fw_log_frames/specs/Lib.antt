pub mod Names
pub mod Frames
