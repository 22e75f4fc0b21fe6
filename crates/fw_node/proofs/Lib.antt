pub mod Spaces
pub mod Served
mod Followed
pub mod Places
pub mod ContentLaws
