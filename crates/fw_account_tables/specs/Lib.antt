pub mod Stands
pub mod Swaps
