pub mod Contents
pub mod Space
pub mod Packets
pub mod State
pub mod Fcp
pub mod Lending
pub mod Streams
pub mod Waiting
