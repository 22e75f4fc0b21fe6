pub mod Moves
pub mod Names
pub mod Endings
pub mod Pasts
pub mod Steps
pub mod Rows
pub mod Finishing
pub mod Walking
