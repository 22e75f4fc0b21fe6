pub mod Telling
pub mod Histories
pub mod Sayings
