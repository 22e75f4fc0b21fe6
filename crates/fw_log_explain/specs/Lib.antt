pub mod Resets
pub mod Lines
pub mod Explained
pub mod Tails
