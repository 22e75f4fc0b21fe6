pub mod Outcome
pub mod Keeping
pub mod KeptBuses
pub mod Arriving
