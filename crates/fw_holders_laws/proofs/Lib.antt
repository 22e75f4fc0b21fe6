pub mod Lines
pub mod Channels
pub mod Plugs
pub mod Told
pub mod Quiet
