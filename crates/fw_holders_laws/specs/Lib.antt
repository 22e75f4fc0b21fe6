pub mod Channels
pub mod Moves
pub mod Between
