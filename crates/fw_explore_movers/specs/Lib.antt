pub mod Explored
pub mod Words
