pub mod Tallies
pub mod Texts
