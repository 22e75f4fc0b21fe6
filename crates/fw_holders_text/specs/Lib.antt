pub mod Deeds
pub mod Holdings
pub mod Kept
pub mod Names
