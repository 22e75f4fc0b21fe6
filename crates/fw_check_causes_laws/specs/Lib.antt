pub mod Told
pub mod So
