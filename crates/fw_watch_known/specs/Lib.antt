pub mod Channels
pub mod States
pub mod Judging
pub mod Swapped
pub mod Heard
pub mod Used
pub mod Changes
