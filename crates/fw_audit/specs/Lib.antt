pub mod Found
pub mod Unjudged
