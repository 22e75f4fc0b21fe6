pub mod Common
pub mod Bits
pub mod Causes
pub mod Deciding
pub mod Restoring
pub mod Resuming
