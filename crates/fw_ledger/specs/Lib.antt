pub mod Deaths
pub mod Resets
pub mod Renewed
pub mod Swapped
pub mod Refused
