pub mod Changes
pub mod Quiet
pub mod Runs
pub mod Lends
