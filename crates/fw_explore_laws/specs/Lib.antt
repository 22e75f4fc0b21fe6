pub mod Rest
pub mod Rests
pub mod Runs
pub mod Told
