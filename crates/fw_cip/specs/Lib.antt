pub mod Iso
pub mod Streams
