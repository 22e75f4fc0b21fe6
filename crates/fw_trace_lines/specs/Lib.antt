pub mod Jobs
pub mod Streams
pub mod Told
pub mod Caused
pub mod Replies
pub mod Lines
pub mod Commands
pub mod Laws
