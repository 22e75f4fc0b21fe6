pub mod Gen
pub mod Counted
pub mod Summary
