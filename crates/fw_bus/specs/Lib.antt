pub mod Buses
pub mod Changes
