pub mod Judging
pub mod Swaps
pub mod Hearing
pub mod Holding
pub mod Answering
pub mod Steps
pub mod Watched
