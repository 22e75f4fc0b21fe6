pub mod Registers
pub mod Knowing
pub mod Parts
pub mod Remarks
