pub mod Names
pub mod Digits
pub mod Line
pub mod Resets
pub mod Report
pub mod Tallies
