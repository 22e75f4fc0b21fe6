pub mod Named
pub mod Calls
