pub mod Values
pub mod Packets
pub mod Usual
pub mod Standing
